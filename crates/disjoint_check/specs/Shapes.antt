-- The shapes of the sites of a program, in the order of its plan: the members and phases of a
-- `team`, and the number of branches and 0 of a `par`, so that the two kinds differ. Bounds are literals, so no store
-- is needed.
use Rattle.std.specs.Prelude.{ℕ, zero, suc, List, [], ◌∷◌, ◌++◌, unsigned_abs}
use Rattle.array_tree.specs.Trees.{Statement, Assign, For, If, Par, Team, Sequence, ended, followed, Sequences, no_more, beside, ProgramTree}
use Rattle.array_meaning.specs.Work.{span}
use Rattle.array_meaning.specs.Limits.{count_of}

-- A shape is the number of a site's members and the number of its phases.
abbrev pub Shape : Type 0
Shape = ℕ × ℕ

-- The shapes of so many turns follow one another.
abbrev pub turns_of_shapes : ℕ → List Shape → List Shape
turns_of_shapes zero body = []
turns_of_shapes (suc n) body = body ++ turns_of_shapes n body

-- A construct comes before those inside it.
abbrev mutual
  pub statement_shapes : Statement → List Shape
  statement_shapes (Assign line array index value) = []
  statement_shapes (For line var low high body) =
      turns_of_shapes (span low high) (sequence_shapes body)
  statement_shapes (If line cond then_block else_block) =
      sequence_shapes then_block ++ sequence_shapes else_block
  statement_shapes (Par line branches) = (count_of branches, 0) ∷ branches_shapes branches
  statement_shapes (Team line var low high members phases) =
      (unsigned_abs members, count_of phases) ∷ phases_shapes phases (span low high)

  pub sequence_shapes : Sequence → List Shape
  sequence_shapes ended = []
  sequence_shapes (followed first rest) = statement_shapes first ++ sequence_shapes rest

  pub branches_shapes : Sequences → List Shape
  branches_shapes no_more = []
  branches_shapes (beside first rest) = sequence_shapes first ++ branches_shapes rest

  -- The shapes of phases, each with so many iterations.
  pub phases_shapes : Sequences → ℕ → List Shape
  phases_shapes no_more iterations = []
  phases_shapes (beside first rest) iterations =
      turns_of_shapes iterations (sequence_shapes first) ++ phases_shapes rest iterations

-- The shapes of a program are those of its sites, in their order.
abbrev pub shapes_of : ProgramTree → List Shape
shapes_of program = sequence_shapes program.body
