-- The plan of a program: the parent of each site, in the order of the meaning, through both sides of each `if`. The plan has
-- the parent of site s at index s - 1: the innermost construct around, or 0. Bounds are literals, so no store is needed.
use Rattle.std.specs.Prelude.{◌≡◌, ℕ, zero, suc, ◌+◌, ◌*◌, ◌<◌, ◌≤◌, ◌⊎◌, List, [], ◌∷◌, ◌++◌, length}
use Rattle.array_tree.specs.Trees.{Statement, Assign, For, If, Par, Team, Sequence, ended, followed, Sequences, no_more, beside, ProgramTree}
use Rattle.array_meaning.specs.Work.{span}

-- The parents of a part's sites, given the construct around it and the number of the next site.
abbrev pub Parents : Type 0
Parents = ℕ → ℕ → List ℕ

-- The sites of one part come first, and then those of the next.
abbrev pub and_then : Parents → Parents → Parents
and_then first rest around next =
    let sites = first around next in sites ++ rest around (next + length sites)

-- The sites of so many turns follow one another.
abbrev pub repeated : ℕ → Parents → Parents
repeated zero body around next = []
repeated (suc n) body around next = and_then body (repeated n body) around next

-- A construct is a site, and those inside it follow.
abbrev pub construct : Parents → Parents
construct inside around next = around ∷ inside next (next + 1)

-- The parents of the sites of a sequence, a statement, and branches.
abbrev mutual
  pub statement_parents : Statement → Parents
  statement_parents (Assign line array index value) around next = []
  statement_parents (For line var low high body) around next =
      repeated (span low high) (sequence_parents body) around next
  statement_parents (If line cond then_block else_block) around next =
      and_then (sequence_parents then_block) (sequence_parents else_block) around next
  statement_parents (Par line branches) around next =
      construct (branches_parents branches) around next
  statement_parents (Team line var low high members phases) around next =
      construct (phases_parents phases (span low high)) around next

  pub sequence_parents : Sequence → Parents
  sequence_parents ended around next = []
  sequence_parents (followed first rest) around next =
      and_then (statement_parents first) (sequence_parents rest) around next

  pub branches_parents : Sequences → Parents
  branches_parents no_more around next = []
  branches_parents (beside first rest) around next =
      and_then (sequence_parents first) (branches_parents rest) around next

  -- The parents of the sites of phases, each of which has so many iterations.
  pub phases_parents : Sequences → ℕ → Parents
  phases_parents no_more iterations around next = []
  phases_parents (beside first rest) iterations around next =
      and_then (repeated iterations (sequence_parents first))
      (phases_parents rest iterations) around next

-- In the plan no construct is around the body, and the first site is 1.
abbrev pub plan_of : ProgramTree → List ℕ
plan_of program = sequence_parents program.body 0 1

-- The number of sites of a part of a program, on both sides of each `if`.
abbrev mutual
  pub statement_sites_in : Statement → ℕ
  statement_sites_in (Assign line array index value) = 0
  statement_sites_in (For line var low high body) = span low high * sites_in body
  statement_sites_in (If line cond then_block else_block) =
      sites_in then_block + sites_in else_block
  statement_sites_in (Par line branches) = 1 + branches_sites_in branches
  statement_sites_in (Team line var low high members phases) =
      1 + span low high * branches_sites_in phases

  pub sites_in : Sequence → ℕ
  sites_in ended = 0
  sites_in (followed first rest) = statement_sites_in first + sites_in rest

  pub branches_sites_in : Sequences → ℕ
  branches_sites_in no_more = 0
  branches_sites_in (beside first rest) = sites_in first + branches_sites_in rest

-- Each of these parents has a smaller number than its site; the first site has the number `next`.
abbrev pub AreEarlier : ℕ → List ℕ → Type 0
AreEarlier next [] = Unit {0}
AreEarlier next (parent ∷ more) = (parent < next) × AreEarlier (next + 1) more

-- Each of these parents is the construct around, or a site from `first` on.
abbrev pub AreInside : ℕ → ℕ → List ℕ → Type 0
AreInside around first [] = Unit {0}
AreInside around first (parent ∷ more) =
    ((parent ≡ around) ⊎ (first ≤ parent)) × AreInside around first more

-- None of these parents is one of the n sites from `first` on.
abbrev pub AreOutside : ℕ → ℕ → List ℕ → Type 0
AreOutside first n [] = Unit {0}
AreOutside first n (parent ∷ more) =
    ((parent < first) ⊎ (first + n ≤ parent)) × AreOutside first n more

-- The sites of a part are inside the construct around it or inside each other.
abbrev pub StayInside : Parents → Type 0
StayInside part = (around next : ℕ) → AreInside around next (part around next)
