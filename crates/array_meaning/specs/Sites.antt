-- The sites of a program: each `par` and `team`, in order, on both sides of each `if`, with its pieces.
use Rattle.std.specs.Prelude.{ℕ, zero, suc, List, [], ◌∷◌, ◌++◌, ℤ, pos, ◌+ℤ◌, unsigned_abs}
use Rattle.array_tree.specs.Trees.{Statement, Assign, For, If, Par, Team, Sequence, ended, followed, Sequences, no_more, beside}
use Rattle.array_meaning.specs.Stores.{Arrays, Vars}
use Rattle.array_meaning.specs.Steps.{Steps}
use Rattle.array_meaning.specs.Work.{span, sequence_work}
use Rattle.array_meaning.specs.Members.{team_works}
use Rattle.array_meaning.specs.Touch.{IsApart}

-- A site: its construct's line, and the steps of the pieces of each of its rounds. A `par` has one round with a piece for each
-- branch, a `team` a round for each phase with a piece for each member.
pub record Site : Type 0 where
  pub line : ℕ
  pub rounds : List (List Steps)

-- The steps of each branch.
abbrev pub branch_works : Sequences → Vars → List Steps
branch_works no_more vars = []
branch_works (beside first rest) vars = sequence_work first vars ∷ branch_works rest vars

-- The steps of the members in each phase.
abbrev pub phase_rounds : Sequences → List ℕ → ℤ → ℤ → ℕ → Vars → List (List Steps)
phase_rounds no_more var low high members vars = []
phase_rounds (beside first rest) var low high members vars =
    team_works var low high members (sequence_work first) vars
    ∷ phase_rounds rest var low high members vars

-- The sites of so many turns, one after another.
abbrev pub turn_sites : (ℤ → List Site) → ℤ → ℕ → List Site
turn_sites body low zero = []
turn_sites body low (suc n) = body low ++ turn_sites body (low +ℤ pos 1) n

-- The sites of a loop are those of its body, turn after turn.
abbrev pub loop_sites : List ℕ → ℤ → ℤ → (Vars → List Site) → Vars → List Site
loop_sites var low high body vars = turn_sites (λ x. body ((var, x) ∷ vars)) low (span low high)

-- The sites of a statement and of a sequence. A construct comes before those inside it, and both sides of an `if` are included.
abbrev mutual
  pub statement_sites : Statement → Vars → List Site
  statement_sites (Assign line array index value) vars = []
  statement_sites (For line var low high body) vars =
      loop_sites var low high (sequence_sites body) vars
  statement_sites (If line cond then_block else_block) vars =
      sequence_sites then_block vars ++ sequence_sites else_block vars
  statement_sites (Par line branches) vars =
      record { line = line; rounds = branch_works branches vars ∷ [] }
      ∷ branches_sites branches vars
  statement_sites (Team line var low high members phases) vars =
      record { line = line; rounds = phase_rounds phases var low high (unsigned_abs members) vars }
      ∷ phases_sites phases var low high vars

  pub sequence_sites : Sequence → Vars → List Site
  sequence_sites ended vars = []
  sequence_sites (followed first rest) vars = statement_sites first vars ++ sequence_sites rest vars

  pub branches_sites : Sequences → Vars → List Site
  branches_sites no_more vars = []
  branches_sites (beside first rest) vars = sequence_sites first vars ++ branches_sites rest vars

  pub phases_sites : Sequences → List ℕ → ℤ → ℤ → Vars → List Site
  phases_sites no_more var low high vars = []
  phases_sites (beside first rest) var low high vars =
      loop_sites var low high (sequence_sites first) vars ++ phases_sites rest var low high vars

-- The pieces of each round are apart.
abbrev pub AreRoundsApart : Arrays → List (List Steps) → Type 0
AreRoundsApart arrays [] = Unit {0}
AreRoundsApart arrays (round ∷ more) = IsApart arrays round × AreRoundsApart arrays more

-- At each site the pieces of each round are apart.
abbrev pub AreSitesApart : Arrays → List Site → Type 0
AreSitesApart arrays [] = Unit {0}
AreSitesApart arrays (site ∷ more) = AreRoundsApart arrays site.rounds × AreSitesApart arrays more
