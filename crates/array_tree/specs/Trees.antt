-- Programs as plain data, without addresses. All definitions of the language are about these; each Rust type of the tree has
-- one view to them.
use Rattle.std.specs.Prelude.{ℕ, ℤ, List, [], ◌∷◌, map}
use Rattle.array_tree.specs.declared.tree.Op.{Op}
use Rattle.array_tree.specs.declared.tree.Expr.{Expr}
use Rattle.array_tree.specs.declared.tree.Expr.TheVariants as expr
use Rattle.array_tree.specs.declared.tree.Stmt.{Stmt}
use Rattle.array_tree.specs.declared.tree.Block.{Block}
use Rattle.array_tree.specs.declared.tree.Stmt.TheOpen as open_tree
use Rattle.array_tree.specs.declared.tree.Stmt.TheFolds.{fold-Stmt, fold-Block, fold-Blocks}
use Rattle.array_tree.specs.declared.tree.Blocks.{Blocks}
use Rattle.array_tree.specs.declared.tree.ArrayDecl.{ArrayDecl}
use Rattle.array_tree.specs.declared.tree.Arrays.{Arrays}
use Rattle.array_tree.specs.declared.tree.Program.{Program}

-- An expression: a literal, a loop variable, an array read, a minus sign, or an operator.
pub data Expression : Type 0 where
  Number : (value : ℤ) → Expression
  Var : (name : List ℕ) → Expression
  Read : (array : List ℕ) (index : Expression) → Expression
  Neg : (operand : Expression) → Expression
  Binary : (op : Op) (left right : Expression) → Expression

-- A statement, statements one after another (a block), and blocks beside one another (branches or phases).
mutual
  -- A statement with its source line.
  pub data Statement : Type 0 where
    Assign : (line : ℕ) (array : List ℕ) (index value : Expression) → Statement
    For : (line : ℕ) (var : List ℕ) (low high : ℤ) (body : Sequence) → Statement
    If : (line : ℕ) (cond : Expression) (then_block else_block : Sequence) → Statement
    Par : (line : ℕ) (branches : Sequences) → Statement
    Team : (line : ℕ) (var : List ℕ) (low high members : ℤ) (phases : Sequences) → Statement

  -- Statements one after another.
  pub data Sequence : Type 0 where
    ended : Sequence
    followed : (first : Statement) (rest : Sequence) → Sequence

  -- Blocks beside one another: branches or phases.
  pub data Sequences : Type 0 where
    no_more : Sequences
    beside : (first : Sequence) (rest : Sequences) → Sequences

-- An array's declaration.
pub record Declaration : Type 0 where
  pub line : ℕ
  pub name : List ℕ
  pub length : ℤ

-- A program: its declarations and its statements.
pub record ProgramTree : Type 0 where
  pub arrays : List Declaration
  pub body : Sequence

-- The sequence of a list of statements.
abbrev pub sequence : List Statement → Sequence
sequence [] = ended
sequence (s ∷ rest) = followed s (sequence rest)

-- The branches or phases of a list of sequences.
abbrev pub sequences : List Sequence → Sequences
sequences [] = no_more
sequences (b ∷ rest) = beside b (sequences rest)

-- The model of an expression.
abbrev pub expression_of : Expr → Expression
expression_of (expr.Number value) = Number value
expression_of (expr.Var name) = Var name
expression_of (expr.Read' name place index) = Read name (expression_of index)
expression_of (expr.Neg' place operand) = Neg (expression_of operand)
expression_of (expr.Binary' op place left place' right) =
    Binary op (expression_of left) (expression_of right)

-- The model of a statement, from the models of its parts.
abbrev pub statement_step : open_tree.Stmt-F Statement Sequence Sequences → Statement
statement_step (open_tree.Assign line array index value) =
    Assign line array (expression_of index) (expression_of value)
statement_step (open_tree.For line var low high body) = For line var low high body
statement_step (open_tree.If line cond left right) = If line (expression_of cond) left right
statement_step (open_tree.Par line branches) = Par line branches
statement_step (open_tree.Team line var low high members phases) =
    Team line var low high members phases

-- The model of a block, from the models of its statements.
abbrev pub block_step : open_tree.Block-F Statement Sequence Sequences → Sequence
block_step block = sequence block.statements.items

-- The model of branches or phases, from the models of their blocks.
abbrev pub blocks_step : open_tree.Blocks-F Statement Sequence Sequences → Sequences
blocks_step blocks = sequences blocks.blocks.items

-- The model of a statement.
abbrev pub statement_of : Stmt → Statement
statement_of = fold-Stmt Statement Sequence Sequences statement_step block_step blocks_step

-- The model of a block.
abbrev pub sequence_of : Block → Sequence
sequence_of = fold-Block Statement Sequence Sequences statement_step block_step blocks_step

-- The model of branches or phases.
abbrev pub sequences_of : Blocks → Sequences
sequences_of = fold-Blocks Statement Sequence Sequences statement_step block_step blocks_step

-- The model of a declaration.
abbrev pub declaration_of : ArrayDecl → Declaration
declaration_of array = record { line = array.line; name = array.name; length = array.length }

-- The models of a program's declarations.
abbrev pub declarations_of : Arrays → List Declaration
declarations_of arrays = map declaration_of arrays.declarations.items

-- The model of a program.
abbrev pub program_of : Program → ProgramTree
program_of program = record {
  arrays = declarations_of program.arrays;
  body = sequence_of program.body;
}
