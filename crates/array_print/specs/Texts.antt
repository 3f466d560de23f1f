-- The printed text of a program: each declaration and each statement begins a line of its own, and operands are in parentheses
-- if their binding strengths require it.
use Rattle.std.specs.Prelude.{ℕ, ℤ, nat_lt, nat_le, nat_eq, Bool, true, false, ◌||◌, ◌&&◌, List, [], ◌++◌, codes, flat_map}
use Rattle.std.specs.Fmt.{signed_decimal}
use Rattle.array_tree.specs.declared.tree.Op.{Op}
use Rattle.array_tree.specs.declared.tree.Op.TheVariants as ops
use Rattle.array_lang.specs.Grammar.{binding}
use Rattle.array_lang.specs.Parsing.FirstToken.{pull_at}
use Rattle.array_tree.specs.Trees.{Expression, Number, Var, Read, Neg, Binary, Statement, Assign, For, If, Par, Team, Sequence, ended, followed, Sequences, no_more, beside, Declaration, ProgramTree}

-- How strongly an operator binds: a comparison 1, a sum 2, a product 3.
abbrev pub op_strength : Op → ℕ
op_strength op = pull_at (binding op)

-- The same of an expression: that of its operator, a minus sign 4, all others 5.
abbrev pub strength_of : Expression → ℕ
strength_of (Binary op left right) = op_strength op
strength_of (Neg operand) = 4
strength_of x = 5

-- A left operand is in parentheses where it binds weaker than the operator, or where both are comparisons.
abbrev pub groups_left : Op → Expression → Bool
groups_left op left = nat_lt (strength_of left) (op_strength op)
    || (nat_eq (op_strength op) 1 && nat_eq (strength_of left) 1)

-- A right operand is in parentheses where it doesn't bind stronger than the operator.
abbrev pub groups_right : Op → Expression → Bool
groups_right op right = nat_le (strength_of right) (op_strength op)

-- The operand of a minus sign is in parentheses where it binds weaker than the sign.
abbrev pub groups_negated : Expression → Bool
groups_negated operand = nat_lt (strength_of operand) 4

-- A text, in parentheses where the test says so.
abbrev pub grouped_text : Bool → List ℕ → List ℕ
grouped_text true text = codes "(" ++ text ++ codes ")"
grouped_text false text = text

-- An operator, with one space on both sides.
abbrev pub op_text : Op → List ℕ
op_text ops.Add = codes " + "
op_text ops.Sub = codes " - "
op_text ops.Mul = codes " * "
op_text ops.Div = codes " / "
op_text ops.Rem = codes " % "
op_text ops.Less = codes " < "
op_text ops.Greater = codes " > "
op_text ops.LessEq = codes " <= "
op_text ops.GreaterEq = codes " >= "
op_text ops.Equal = codes " == "
op_text ops.NotEqual = codes " != "

-- The text of an expression.
abbrev pub expression_text : Expression → List ℕ
expression_text (Number value) = signed_decimal value
expression_text (Var name) = name
expression_text (Read array index) = array ++ codes "[" ++ expression_text index ++ codes "]"
expression_text (Neg operand) =
    codes "-" ++ grouped_text (groups_negated operand) (expression_text operand)
expression_text (Binary op left right) =
    grouped_text (groups_left op left) (expression_text left) ++ op_text op
    ++ grouped_text (groups_right op right) (expression_text right)

-- What an assignment begins with: the array, its index and the sign.
abbrev pub target_text : List ℕ → Expression → List ℕ
target_text array index = array ++ codes "[" ++ expression_text index ++ codes "] = "

-- A loop variable with its bounds.
abbrev pub range_text : List ℕ → ℤ → ℤ → List ℕ
range_text var low high =
    var ++ codes " in " ++ signed_decimal low ++ codes ".." ++ signed_decimal high

-- A loop variable with its bounds, and the number of members to which the iterations are dealt.
abbrev pub dealt_text : List ℕ → ℤ → ℤ → ℤ → List ℕ
dealt_text var low high members = range_text var low high ++ codes " by " ++ signed_decimal members

-- The margin of a line is two spaces per open block; inside a block it is two spaces wider.
abbrev pub wider : List ℕ → List ℕ
wider margin = margin ++ codes "  "

-- A block around statements of this text; it opens on the line that is under way, and closes on a line of its own.
abbrev pub block_text : List ℕ → List ℕ → List ℕ
block_text margin inside = codes " {\n" ++ inside ++ margin ++ codes "}"

-- An `else` before its block, and nothing where that is empty.
abbrev pub else_text : Sequence → List ℕ → List ℕ
else_text ended block = []
else_text (followed first rest) block = codes " else" ++ block

-- A branch of a `par` around statements of this text, on lines of its own.
abbrev pub branch_text : List ℕ → List ℕ → List ℕ
branch_text margin inside = margin ++ codes "{\n" ++ inside ++ margin ++ codes "}\n"

-- What stands before a phase's block: nothing before the first.
abbrev pub barrier_text : Bool → List ℕ
barrier_text true = codes " barrier"
barrier_text false = []

-- The text of a statement in a margin, of statements one after another, of the branches of a `par`, and of the phases of
-- a `team`, where the test says whether phases stand before them.
abbrev mutual
  pub statement_text : List ℕ → Statement → List ℕ
  statement_text margin (Assign line array index value) =
      margin ++ target_text array index ++ expression_text value ++ codes ";\n"
  statement_text margin (For line var low high body) =
      margin ++ codes "for " ++ range_text var low high
      ++ block_text margin (sequence_text (wider margin) body) ++ codes "\n"
  statement_text margin (If line cond left right) =
      margin ++ codes "if " ++ expression_text cond ++ block_text margin
      (sequence_text (wider margin) left)
      ++ else_text right (block_text margin (sequence_text (wider margin) right)) ++ codes "\n"
  statement_text margin (Par line branches) =
      margin ++ codes "par {\n" ++ branches_text (wider margin) branches ++ margin ++ codes "}\n"
  statement_text margin (Team line var low high members phases) =
      margin ++ codes "team " ++ dealt_text var low high members
      ++ phases_text false margin phases ++ codes "\n"

  pub sequence_text : List ℕ → Sequence → List ℕ
  sequence_text margin ended = []
  sequence_text margin (followed first rest) =
      statement_text margin first ++ sequence_text margin rest

  pub branches_text : List ℕ → Sequences → List ℕ
  branches_text margin no_more = []
  branches_text margin (beside first rest) =
      branch_text margin (sequence_text (wider margin) first) ++ branches_text margin rest

  pub phases_text : Bool → List ℕ → Sequences → List ℕ
  phases_text is_later margin no_more = []
  phases_text is_later margin (beside first rest) =
      barrier_text is_later ++ block_text margin (sequence_text (wider margin) first)
      ++ phases_text true margin rest

-- A block with its statements.
abbrev pub body_text : List ℕ → Sequence → List ℕ
body_text margin body = block_text margin (sequence_text (wider margin) body)

-- The line of a declaration.
abbrev pub declaration_text : Declaration → List ℕ
declaration_text array =
    codes "array " ++ array.name ++ codes "[" ++ signed_decimal array.length ++ codes "];\n"

-- The text of a program: its declarations and then its statements.
abbrev pub printed : ProgramTree → List ℕ
printed program = flat_map declaration_text program.arrays ++ sequence_text [] program.body
