-- `==` of trees, part by part, as tests.
use Rattle.std.specs.Prelude.{ℕ, List, Bool, true, false, ◌&&◌, nat_eq}
use Rattle.std.specs.Ordering.{int_eq}
use Rattle.std.specs.Cmp.Lexicographic.{pointwise}
use Rattle.array_tree.specs.declared.tree.Op.{Op}
use Rattle.array_tree.specs.declared.tree.Op.TheVariants as ops
use Rattle.array_tree.specs.Trees.{Expression, Number, Var, Read, Neg, Binary, Statement, Assign, For, If, Par, Team, Sequence, ended, followed, Sequences, no_more, beside, Declaration, ProgramTree}

-- A number for each operator.
abbrev pub op_number : Op → ℕ
op_number ops.Add = 0
op_number ops.Sub = 1
op_number ops.Mul = 2
op_number ops.Div = 3
op_number ops.Rem = 4
op_number ops.Less = 5
op_number ops.Greater = 6
op_number ops.LessEq = 7
op_number ops.GreaterEq = 8
op_number ops.Equal = 9
op_number ops.NotEqual = 10

-- The test of two names.
abbrev pub name_eq : List ℕ → List ℕ → Bool
name_eq a b = pointwise nat_eq a b

-- The test of two expressions.
abbrev pub expression_eq : Expression → Expression → Bool
expression_eq (Number m) (Number n) = int_eq m n
expression_eq (Var a) (Var b) = name_eq a b
expression_eq (Read a i) (Read b j) = name_eq a b && expression_eq i j
expression_eq (Neg x) (Neg y) = expression_eq x y
expression_eq (Binary o x y) (Binary p u v) =
    nat_eq (op_number o) (op_number p) && (expression_eq x u && expression_eq y v)
expression_eq x y = false

-- The tests of two statements, sequences, and branches or phases.
abbrev mutual
  pub statement_eq : Statement → Statement → Bool
  statement_eq (Assign k a i v) (Assign l b j w) =
      nat_eq k l && (name_eq a b && (expression_eq i j && expression_eq v w))
  statement_eq (For k a m n p) (For l b m' n' q) =
      nat_eq k l && (name_eq a b && (int_eq m m' && (int_eq n n' && sequence_eq p q)))
  statement_eq (If k x p q) (If l y p' q') =
      nat_eq k l && (expression_eq x y && (sequence_eq p p' && sequence_eq q q'))
  statement_eq (Par k bs) (Par l cs) = nat_eq k l && sequences_eq bs cs
  statement_eq (Team k a m n j bs) (Team l b m' n' j' cs) =
      nat_eq k l && (name_eq a b
      && (int_eq m m' && (int_eq n n' && (int_eq j j' && sequences_eq bs cs))))
  statement_eq c d = false

  pub sequence_eq : Sequence → Sequence → Bool
  sequence_eq ended ended = true
  sequence_eq (followed c p) (followed d q) = statement_eq c d && sequence_eq p q
  sequence_eq p q = false

  pub sequences_eq : Sequences → Sequences → Bool
  sequences_eq no_more no_more = true
  sequences_eq (beside p bs) (beside q cs) = sequence_eq p q && sequences_eq bs cs
  sequences_eq bs cs = false

-- The test of two declarations.
abbrev pub declaration_eq : Declaration → Declaration → Bool
declaration_eq d e = nat_eq d.line e.line && (name_eq d.name e.name && int_eq d.length e.length)

-- The test of two lists of declarations.
abbrev pub declarations_eq : List Declaration → List Declaration → Bool
declarations_eq ds es = pointwise declaration_eq ds es

-- The test of two programs.
abbrev pub program_eq : ProgramTree → ProgramTree → Bool
program_eq p q = declarations_eq p.arrays q.arrays && sequence_eq p.body q.body
