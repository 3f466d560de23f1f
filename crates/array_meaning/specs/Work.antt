-- The steps of statements with the loop variables around them. Bounds are literals, so no store is needed. `par` and `team`
-- leave no mark: their branches and phases run from left to right.
use Rattle.std.specs.Prelude.{ℕ, zero, suc, List, [], ◌∷◌, ℤ, pos, ◌+ℤ◌, ◌-ℤ◌, unsigned_abs, int_lt, replicate, if◌then◌else◌}
use Rattle.array_tree.specs.Trees.{Statement, Assign, For, If, Par, Team, Sequence, ended, followed, Sequences, no_more, beside, ProgramTree}
use Rattle.array_meaning.specs.Stores.{Arrays, Vars, Store, arrays_of, cells_of}
use Rattle.array_meaning.specs.Steps.{Steps, Done, Set, Choose, followed_by, exec}

-- A work is what a part of a program does, as steps, with the values of the loop variables around it.
abbrev pub Work : Type 0
Work = Vars → Steps

-- The body runs for so many numbers from one on.
abbrev pub turns : (ℤ → Steps) → ℤ → ℕ → Steps
turns body low zero = Done
turns body low (suc n) = followed_by (body low) (turns body (low +ℤ pos 1) n)

-- The count of numbers from low to before high.
abbrev pub span : ℤ → ℤ → ℕ
span low high = if int_lt low high then unsigned_abs (high -ℤ low) else 0

-- The body runs for each number from low to before high.
abbrev pub loop : List ℕ → ℤ → ℤ → Work → Work
loop var low high body vars = turns (λ x. body ((var, x) ∷ vars)) low (span low high)

-- The work of a sequence and of a statement.
abbrev mutual
  pub statement_work : Statement → Work
  statement_work (Assign line array index value) vars = Set line vars array index value Done
  statement_work (For line var low high body) vars = loop var low high (sequence_work body) vars
  statement_work (If line cond then_block else_block) vars =
      Choose line vars cond (sequence_work then_block vars) (sequence_work else_block vars) Done
  statement_work (Par line branches) vars = branches_work branches vars
  statement_work (Team line var low high members phases) vars = phases_work phases var low high vars

  pub sequence_work : Sequence → Work
  sequence_work ended vars = Done
  sequence_work (followed first rest) vars =
      followed_by (statement_work first vars) (sequence_work rest vars)

  -- The work of branches, one after another.
  pub branches_work : Sequences → Work
  branches_work no_more vars = Done
  branches_work (beside first rest) vars =
      followed_by (sequence_work first vars) (branches_work rest vars)

  -- The work of phases, one after another: each a loop.
  pub phases_work : Sequences → List ℕ → ℤ → ℤ → Work
  phases_work no_more var low high vars = Done
  phases_work (beside first rest) var low high vars =
      followed_by (loop var low high (sequence_work first) vars)
      (phases_work rest var low high vars)

-- All cells are 0 at first.
abbrev pub first_store : Arrays → Store
first_store arrays = replicate (cells_of arrays) (pos 0)

-- The store with which a program ends.
abbrev pub final_store : ProgramTree → Store
final_store program =
    let arrays = arrays_of program.arrays in
    exec arrays (sequence_work program.body []) (first_store arrays)
