-- The shapes of constructs.
use Rattle.std.specs.Prelude.{ℕ, Option, Some, None, unsigned_abs}
use Rattle.array_tree.specs.Trees.{Statement, Assign, For, If, Par, Team}
use Rattle.array_meaning.specs.Limits.{count_of}
use Rattle.step_eval.specs.declared.shape.Kind.{Kind}
use Rattle.step_eval.specs.declared.shape.Kind.TheVariants as kind

-- The kind of a construct; none for any other statement.
abbrev pub kind_of : Statement → Option Kind
kind_of (Assign line array index value) = None
kind_of (For line var low high body) = None
kind_of (If line cond then_block else_block) = None
kind_of (Par line branches) = Some kind.Par
kind_of (Team line var low high members phases) = Some kind.Team

-- The number of pieces of each phase of a construct.
abbrev pub members_of : Statement → ℕ
members_of (Assign line array index value) = 0
members_of (For line var low high body) = 0
members_of (If line cond then_block else_block) = 0
members_of (Par line branches) = count_of branches
members_of (Team line var low high members phases) = unsigned_abs members
