-- The limits on nesting, by the tokens that pass one: an outermost expression has at most 64 marks, and at most 32 braces
-- are open at once.
use Rattle.std.specs.Prelude.{ℕ, ℤ, ◌+◌, ◌-◌, Bool, true, false, ◌&&◌, nat_le, if◌then◌else◌, List, [], ◌∷◌, ◌++◌, length, take, Option, None, Some, is_some}
use Rattle.array_tokens.specs.Lexemes.{Lexeme, sign, Spot}
use Rattle.array_tokens.specs.declared.token.Sign.TheVariants as signs
use Rattle.array_tree.specs.Trees.{Expression, Statement, Sequence, Sequences, Declaration, ProgramTree}
use Rattle.array_lang.specs.Grammar.{operator_of, SpellsExpression, SpellsBound, plain_bound, negative_bound, SpellsRange, range, SpellsStatement, assigned, looped, chosen, chosen_else, parallel, teamed, SpellsBranches, last_branch, next_branch, SpellsPhases, last_phase, next_phase, SpellsBlock, block, SpellsSequence, no_statement, next_statement, SpellsDeclarations, no_declaration, next_declaration, SpellsProgram}

-- The greatest number of marks of an outermost expression.
abbrev pub most_marks : ℕ
most_marks = 64

-- The greatest number of braces that are open at once.
abbrev pub most_open : ℕ
most_open = 32

-- A token of an expression is a mark if it is `(`, `[`, a minus sign or a binary operator.
abbrev pub is_mark : Lexeme → Bool
is_mark (sign signs.OpenGroup) = true
is_mark (sign signs.OpenIndex) = true
is_mark l = is_some (operator_of l)

-- The number of marks of the outermost expression after this token.
abbrev pub marks_after : ℕ → Lexeme → ℕ
marks_after m l = if is_mark l then m + 1 else m

-- For each of these tokens of an outermost expression: whether the token is a mark too many, if m marks stand before the tokens.
abbrev pub marks_beyond : ℕ → List Spot → List Bool
marks_beyond m [] = []
marks_beyond m (t ∷ ts) =
    (is_mark t.lexeme && nat_le most_marks m) ∷ marks_beyond (marks_after m t.lexeme) ts

-- The tokens from s up to t.
abbrev pub between : List Spot → List Spot → List Spot
between s t = take (length s - length t) s

-- For each token of an expression: whether the token passes the limit on marks.
abbrev pub expression_beyond : {s t : List Spot} {x : Expression}
    → SpellsExpression s t x → List Bool
expression_beyond {s} {t} d = marks_beyond 0 (between s t)

-- For each token of a bound: false, since no token of a bound passes the limit.
abbrev pub bound_beyond : {s t : List Spot} {v : ℤ} → SpellsBound s t v → List Bool
bound_beyond plain_bound = false ∷ []
bound_beyond negative_bound = false ∷ false ∷ []

-- For each token of a range: false, since no token of a range passes the limit.
abbrev pub range_beyond : {s t : List Spot} {b : List ℕ} {low high : ℤ}
    → SpellsRange s t b low high → List Bool
range_beyond (range d e) = false ∷ false ∷ (bound_beyond d ++ false ∷ bound_beyond e)

-- For each token of a statement: whether the token is a mark too many of its outermost expression, or opens a brace too many,
-- if `depth` braces are open around the statement.
abbrev mutual
  pub statement_beyond : {s t : List Spot} {c : Statement} → (depth : ℕ)
      → SpellsStatement s t c → List Bool
  statement_beyond depth (assigned d e) =
      false ∷ false ∷ (expression_beyond d ++ false ∷ false ∷ (expression_beyond e ++ false ∷ []))
  statement_beyond depth (looped d e) = false ∷ (range_beyond d ++ block_beyond depth e)
  statement_beyond depth (chosen d e) = false ∷ (expression_beyond d ++ block_beyond depth e)
  statement_beyond depth (chosen_else d e f) =
      false ∷ (expression_beyond d ++ (block_beyond depth e ++ false ∷ block_beyond depth f))
  statement_beyond depth (parallel d) =
      false ∷ nat_le most_open depth ∷ branches_beyond (depth + 1) d
  statement_beyond depth (teamed d e) =
      false ∷ (range_beyond d ++ false ∷ false ∷ phases_beyond depth e)

  pub branches_beyond : {s t : List Spot} {ps : Sequences} → (depth : ℕ)
      → SpellsBranches s t ps → List Bool
  branches_beyond depth (last_branch d) = block_beyond depth d ++ false ∷ []
  branches_beyond depth (next_branch d e) = block_beyond depth d ++ branches_beyond depth e

  pub phases_beyond : {s t : List Spot} {ps : Sequences} → (depth : ℕ)
      → SpellsPhases s t ps → List Bool
  phases_beyond depth (last_phase d) = block_beyond depth d
  phases_beyond depth (next_phase d e) = block_beyond depth d ++ false ∷ phases_beyond depth e

  pub block_beyond : {s t : List Spot} {p : Sequence} → (depth : ℕ) → SpellsBlock s t p → List Bool
  block_beyond depth (block d) =
      nat_le most_open depth ∷ (sequence_beyond (depth + 1) d ++ false ∷ [])

  pub sequence_beyond : {s t : List Spot} {p : Sequence} → (depth : ℕ)
      → SpellsSequence s t p → List Bool
  sequence_beyond depth no_statement = []
  sequence_beyond depth (next_statement d e) = statement_beyond depth d ++ sequence_beyond depth e

-- For each token of declarations: false. A declaration has six tokens, and contains no expression and no block.
abbrev pub declarations_beyond : {s t : List Spot} {ds : List Declaration}
    → SpellsDeclarations s t ds → List Bool
declarations_beyond no_declaration = []
declarations_beyond (next_declaration d e) =
    false ∷ false ∷ false ∷ false ∷ false ∷ false ∷ declarations_beyond e

-- For each token of a program: whether the token passes a limit.
abbrev pub program_beyond : {tokens : List Spot} {p : ProgramTree}
    → SpellsProgram tokens p → List Bool
program_beyond d = declarations_beyond d.declares ++ sequence_beyond 0 d.does

-- The index after this one.
abbrev pub later : Option ℕ → Option ℕ
later None = None
later (Some k) = Some (k + 1)

-- The index of the first token that passes a limit: 0 if the token at the front does, else one more than the rest's index.
abbrev pub first_over : Bool → Option ℕ → Option ℕ
first_over true rest = Some 0
first_over false rest = later rest

-- The index of the first `true`.
abbrev pub first_true : List Bool → Option ℕ
first_true [] = None
first_true (b ∷ bs) = first_over b (first_true bs)

-- The index of the first token of a program that passes a limit.
abbrev pub first_beyond : {tokens : List Spot} {p : ProgramTree} → SpellsProgram tokens p → Option ℕ
first_beyond d = first_true (program_beyond d)
