-- Lengths, bounds and counts inside their limits, and the size of a program.
use Rattle.std.specs.Prelude.{ℕ, ◌+◌, ◌*◌, max, Bool, true, ◌&&◌, List, [], ◌∷◌, length, nat_le, ℤ, pos, int_le, unsigned_abs}
use Rattle.array_tree.specs.Trees.{Expression, Number, Var, Read, Neg, Binary, Statement, Assign, For, If, Par, Team, Sequence, ended, followed, Sequences, no_more, beside, Declaration, ProgramTree}
use Rattle.array_meaning.specs.Bounds.{most_arrays, most_cells, most_members, most_phases}
use Rattle.array_meaning.specs.Stores.{arrays_of, cells_of}
use Rattle.array_meaning.specs.Work.{span}

-- The test decides whether a number is at least 1 and at most this.
abbrev pub is_up_to : ℤ → ℤ → Bool
is_up_to most n = int_le (pos 1) n && int_le n most

-- The test decides whether each array has 1 to 4,096 cells.
abbrev pub have_right_lengths : List Declaration → Bool
have_right_lengths [] = true
have_right_lengths (d ∷ more) = is_up_to (pos most_cells) d.length && have_right_lengths more

-- The count is the number of branches or phases.
abbrev pub count_of : Sequences → ℕ
count_of no_more = 0
count_of (beside first rest) = 1 + count_of rest

-- Whether each loop's low bound is no higher than its high one, each `par` has 1 to 64 branches, and each `team` 1 to
-- 64 members and 1 to 8 phases.
abbrev mutual
  pub has_right_ranges : Sequence → Bool
  has_right_ranges ended = true
  has_right_ranges (followed first rest) = statement_has_right_ranges first && has_right_ranges rest

  pub statement_has_right_ranges : Statement → Bool
  statement_has_right_ranges (Assign line array index value) = true
  statement_has_right_ranges (For line var low high body) = int_le low high && has_right_ranges body
  statement_has_right_ranges (If line cond then_block else_block) =
      has_right_ranges then_block && has_right_ranges else_block
  statement_has_right_ranges (Par line branches) =
      is_up_to (pos most_members) (pos (count_of branches)) && have_right_ranges branches
  statement_has_right_ranges (Team line var low high members phases) =
      (int_le low high && is_up_to (pos most_members) members)
      && (is_up_to (pos most_phases) (pos (count_of phases)) && have_right_ranges phases)

  pub have_right_ranges : Sequences → Bool
  have_right_ranges no_more = true
  have_right_ranges (beside first rest) = has_right_ranges first && have_right_ranges rest

-- The test decides whether all of these are inside their limits, and the arrays at most 64, with at most 4,096 cells in all.
abbrev pub is_in_range : ProgramTree → Bool
is_in_range program =
    (have_right_lengths program.arrays
    && (nat_le (length program.arrays) most_arrays
    && nat_le (cells_of (arrays_of program.arrays)) most_cells))
    && has_right_ranges program.body

-- The depth to which constructs nest in the text.
abbrev mutual
  pub depth_of : Sequence → ℕ
  depth_of ended = 0
  depth_of (followed first rest) = max (statement_depth_of first) (depth_of rest)

  pub statement_depth_of : Statement → ℕ
  statement_depth_of (Assign line array index value) = 0
  statement_depth_of (For line var low high body) = depth_of body
  statement_depth_of (If line cond then_block else_block) =
      max (depth_of then_block) (depth_of else_block)
  statement_depth_of (Par line branches) = 1 + branches_depth_of branches
  statement_depth_of (Team line var low high members phases) = 1 + branches_depth_of phases

  pub branches_depth_of : Sequences → ℕ
  branches_depth_of no_more = 0
  branches_depth_of (beside first rest) = max (depth_of first) (branches_depth_of rest)

-- The units of work of an expression are its nodes.
abbrev pub expression_units_of : Expression → ℕ
expression_units_of (Number n) = 1
expression_units_of (Var name) = 1
expression_units_of (Read array index) = 1 + expression_units_of index
expression_units_of (Neg e) = 1 + expression_units_of e
expression_units_of (Binary op a b) = 1 + (expression_units_of a + expression_units_of b)

-- The units of work of statements.
abbrev mutual
  pub units_of : Sequence → ℕ
  units_of ended = 0
  units_of (followed first rest) = statement_units_of first + units_of rest

  pub statement_units_of : Statement → ℕ
  statement_units_of (Assign line array index value) =
      1 + (expression_units_of index + expression_units_of value)
  statement_units_of (For line var low high body) = 1 + span low high * (1 + units_of body)
  statement_units_of (If line cond then_block else_block) =
      1 + (expression_units_of cond + (units_of then_block + units_of else_block))
  statement_units_of (Par line branches) = 1 + branches_units_of branches
  statement_units_of (Team line var low high members phases) =
      1 + phases_units_of phases (unsigned_abs members) (span low high)

  pub branches_units_of : Sequences → ℕ
  branches_units_of no_more = 0
  branches_units_of (beside first rest) = (1 + units_of first) + branches_units_of rest

  pub phases_units_of : Sequences → ℕ → ℕ → ℕ
  phases_units_of no_more members iterations = 0
  phases_units_of (beside first rest) members iterations =
      (members + iterations * (1 + units_of first)) + phases_units_of rest members iterations

-- The pieces of all sites of a part of a program, on both sides of each `if`.
abbrev mutual
  pub pieces_in : Sequence → ℕ
  pieces_in ended = 0
  pieces_in (followed first rest) = statement_pieces_in first + pieces_in rest

  pub statement_pieces_in : Statement → ℕ
  statement_pieces_in (Assign line array index value) = 0
  statement_pieces_in (For line var low high body) = span low high * pieces_in body
  statement_pieces_in (If line cond then_block else_block) =
      pieces_in then_block + pieces_in else_block
  statement_pieces_in (Par line branches) = count_of branches + branches_pieces_in branches
  statement_pieces_in (Team line var low high members phases) =
      unsigned_abs members * count_of phases + span low high * branches_pieces_in phases

  pub branches_pieces_in : Sequences → ℕ
  branches_pieces_in no_more = 0
  branches_pieces_in (beside first rest) = pieces_in first + branches_pieces_in rest
