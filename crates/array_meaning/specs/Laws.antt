-- The laws of the meaning.
use Rattle.std.specs.Prelude.{◌≡◌, ◌↔◌, ℕ, ◌+◌, ◌<◌, true, false, List, [], map, length, ℤ}
use Rattle.array_tree.specs.Trees.{Statement, Par, Sequence, Sequences, ProgramTree}
use Rattle.array_meaning.specs.Stores.{Arrays, Vars, Store, HaveCells, at_cell}
use Rattle.array_meaning.specs.Steps.{Steps, join, writes_of}
use Rattle.array_meaning.specs.Work.{Work, loop, statement_work, sequence_work}
use Rattle.array_meaning.specs.Touch.{IsApart, reads_of}
use Rattle.array_meaning.specs.Overlap.{overlaps, overlap, IsClash, IsLeastClash}
use Rattle.array_meaning.specs.Members.{team_works}
use Rattle.array_meaning.specs.Sites.{branch_works, sequence_sites}
use Rattle.array_meaning.specs.Pieces.{merged, piece_of, last_writes, HaveSameMembers}
use Rattle.array_meaning.specs.Plans.{plan_of, sites_in, AreEarlier, AreOutside, StayInside, Parents, repeated, statement_parents, sequence_parents, branches_parents, phases_parents}
use Rattle.array_meaning.specs.Entered.{sequence_entered, branches_entered, loop_entered, DependsOnReads, branches_alone, team_alone, sequence_part}

-- What steps write depends only on what they read: from two stores that agree on the cells they read, they write the
-- same.
abbrev pub WritesDependOnReads : Type 0
WritesDependOnReads = (arrays : Arrays) → HaveCells arrays → (steps : Steps) (s t : Store)
    → length s ≡ length t →
    ((cell : ℕ) → reads_of arrays steps cell → at_cell s cell ≡ at_cell t cell)
    → writes_of arrays steps s ≡ writes_of arrays steps t

-- Pieces that are apart, each run from the same store and merged in any order, result in the same store as one after another.
abbrev pub ArePiecesIndependent : Type 0
ArePiecesIndependent = (arrays : Arrays) → HaveCells arrays
    → (pieces order : List Steps) (store : Store) →
    IsApart arrays pieces → HaveSameMembers order pieces →
    merged (map (λ piece. piece_of arrays piece store) order) []
    ≡ last_writes (writes_of arrays (join pieces) store)

-- The branches of a `par`, if they are apart, write what the `par` writes, merged in any order.
abbrev pub AreBranchesIndependent : Type 0
AreBranchesIndependent =
    (arrays : Arrays) → HaveCells arrays
    → (line : ℕ) (branches : Sequences) (vars : Vars) (order : List Steps) (store : Store) →
    IsApart arrays (branch_works branches vars)
    → HaveSameMembers order (branch_works branches vars) →
    merged (map (λ piece. piece_of arrays piece store) order) []
    ≡ last_writes (writes_of arrays (statement_work (Par line branches) vars) store)

-- The members of one phase, if they are apart, write what the loop over all iterations writes, merged in any order.
abbrev pub AreMembersIndependent : Type 0
AreMembersIndependent = (arrays : Arrays) → HaveCells arrays
    → (var : List ℕ) (low high : ℤ) (members : ℕ) (body : Work) (vars : Vars)
    (order : List Steps) (store : Store) → 0 < members →
    IsApart arrays (team_works var low high members body vars)
    → HaveSameMembers order (team_works var low high members body vars) →
    merged (map (λ piece. piece_of arrays piece store) order) []
    ≡ last_writes (writes_of arrays (loop var low high body vars) store)

-- Pieces are apart exactly if no cell passes the test of an overlap.
pub record IsApartByTest (arrays : Arrays) (pieces : List Steps) : Type 0 where
  pub clear : IsApart arrays pieces → (cell : ℕ) → overlaps arrays false false pieces cell ≡ false
  pub apart : ((cell : ℕ) → overlaps arrays false false pieces cell ≡ false) → IsApart arrays pieces

-- The test decides for any pieces whether they are apart.
abbrev pub ApartIsTested : Type 0
ApartIsTested = (arrays : Arrays) (pieces : List Steps) → IsApartByTest arrays pieces

-- A cell passes the test of an overlap exactly if two different pieces clash on it.
abbrev pub ClashesAreTested : Type 0
ClashesAreTested = (arrays : Arrays) (pieces : List Steps) (cell : ℕ)
    → (overlaps arrays false false pieces cell ≡ true) ↔ IsClash arrays pieces cell

-- The reported cell of an overlap is the least one on which two different pieces clash.
abbrev pub LeastClashIsReported : Type 0
LeastClashIsReported = (arrays : Arrays) (cells : ℕ) (pieces : List Steps)
    → IsLeastClash arrays cells pieces (overlap arrays cells pieces)

-- In a plan, the parent of each site comes before it, and the plan has as many parents as the program has sites.
pub record IsPlanOf (program : ProgramTree) (plan : List ℕ) : Type 0 where
  pub earlier : AreEarlier 1 plan
  pub count : length plan ≡ sites_in program.body

-- The computed plan of each program is a plan of it.
abbrev pub PlansAreRight : Type 0
PlansAreRight = (program : ProgramTree) → IsPlanOf program (plan_of program)

-- The sites that the checker visits are as many as those of the plan.
abbrev pub SitesArePlanned : Type 0
SitesArePlanned = (body : Sequence) (vars : Vars)
    → length (sequence_sites body vars) ≡ sites_in body

-- There is a flag for each site of the plan, whether the meaning enters the site.
abbrev pub EnteredSitesAreCounted : Type 0
EnteredSitesAreCounted = (arrays : Arrays) (body : Sequence) (vars : Vars) (store : Store)
    → length (sequence_entered arrays body vars store) ≡ sites_in body

-- The sites that a part enters depend only on what it reads: from two stores that agree on these cells it enters the same.
abbrev pub EnteredDependsOnReads : Type 0
EnteredDependsOnReads =
    (arrays : Arrays) → HaveCells arrays → (body : Sequence) (vars : Vars)
    → DependsOnReads arrays (sequence_work body vars) (sequence_entered arrays body vars)

-- Branches that are apart enter the same sites, each from the store of the `par`, as one after another.
abbrev pub BranchesEnterAlone : Type 0
BranchesEnterAlone =
    (arrays : Arrays) → HaveCells arrays → (branches : Sequences) (vars : Vars) (store : Store) →
    IsApart arrays (branch_works branches vars)
    → branches_entered arrays branches vars store ≡ branches_alone arrays branches vars store

-- Members of one phase that are apart enter the same sites, each from the same store, as the loop over all iterations.
abbrev pub MembersEnterAlone : Type 0
MembersEnterAlone = (arrays : Arrays) → HaveCells arrays
    → (var : List ℕ) (low high : ℤ) (members : ℕ) (body : Sequence) (vars : Vars)
    (store : Store) → 0 < members →
    IsApart arrays (team_works var low high members (sequence_work body) vars)
    → loop_entered arrays var low high (sequence_part arrays body) vars store
    ≡ team_alone arrays var low high members body vars store

-- The sites of every part of a program are inside the construct around it or inside each other.
pub record StayInsideParts : Type 0 where
  pub statements : (s : Statement) → StayInside (statement_parents s)
  pub sequences : (s : Sequence) → StayInside (sequence_parents s)
  pub turns : (n : ℕ) (s : Sequence) → StayInside (repeated n (sequence_parents s))
  pub branches : (bs : Sequences) → StayInside (branches_parents bs)
  pub phases : (bs : Sequences) (n : ℕ) → StayInside (phases_parents bs n)

-- If parts follow one another, no site of a later part is inside a site of an earlier one.
abbrev pub LaterPartsAreOutside : Type 0
LaterPartsAreOutside = (part : Parents) → StayInside part → (around first n : ℕ) → around < first
    → AreOutside first n (part around (first + n))
