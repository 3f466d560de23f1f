-- The shapes of the sites of a program, in the order of its plan: the kind of the scheduler, whether it has phases, and the line of
-- the construct. Bounds are literals, so no store is needed. The schedulers of `team` constructs are of the kind `teams`.
use Rattle.std.specs.Prelude.{ℕ, zero, suc, true, false, List, [], ◌∷◌, ◌++◌}
use Rattle.array_tree.specs.Trees.{Statement, Assign, For, If, Par, Team, Sequence, ended, followed, Sequences, no_more, beside, ProgramTree}
use Rattle.array_meaning.specs.Work.{span}
use Rattle.journal_picture.specs.declared.shape.Kind.{Kind}
use Rattle.journal_picture.specs.declared.shape.Shape.{Shape}
use Rattle.journal_picture.specs.Kinds.{pool}

-- The shapes of n turns, each of which has the shapes of the body.
abbrev pub turns_of : ℕ → List Shape → List Shape
turns_of zero body = []
turns_of (suc n) body = body ++ turns_of n body

-- The shape of the site of a `par` in this line.
abbrev pub par_shape : ℕ → Shape
par_shape line = record { kind = pool; phased = false; line = line }

-- The shape of the site of a `team` in this line, with a scheduler of this kind.
abbrev pub team_shape : Kind → ℕ → Shape
team_shape teams line = record { kind = teams; phased = true; line = line }

-- A construct comes before the constructs inside it.
abbrev mutual
  -- The shapes of the sites of a statement.
  pub statement_shapes : Kind → Statement → List Shape
  statement_shapes teams (Assign line array index value) = []
  statement_shapes teams (For line var low high body) = turns_of (span low high) (sequence_shapes teams body)
  statement_shapes teams (If line cond then_block else_block) =
      sequence_shapes teams then_block ++ sequence_shapes teams else_block
  statement_shapes teams (Par line branches) = par_shape line ∷ branches_shapes teams branches
  statement_shapes teams (Team line var low high members phases) =
      team_shape teams line ∷ phases_shapes teams phases (span low high)

  -- The shapes of the sites of a sequence.
  pub sequence_shapes : Kind → Sequence → List Shape
  sequence_shapes teams ended = []
  sequence_shapes teams (followed first rest) = statement_shapes teams first ++ sequence_shapes teams rest

  -- The shapes of the sites of branches.
  pub branches_shapes : Kind → Sequences → List Shape
  branches_shapes teams no_more = []
  branches_shapes teams (beside first rest) = sequence_shapes teams first ++ branches_shapes teams rest

  -- The shapes of the sites of phases, each of which has so many iterations.
  pub phases_shapes : Kind → Sequences → ℕ → List Shape
  phases_shapes teams no_more iterations = []
  phases_shapes teams (beside first rest) iterations =
      turns_of iterations (sequence_shapes teams first) ++ phases_shapes teams rest iterations

-- The shapes of a program's sites.
abbrev pub shapes_of : Kind → ProgramTree → List Shape
shapes_of teams program = sequence_shapes teams program.body
