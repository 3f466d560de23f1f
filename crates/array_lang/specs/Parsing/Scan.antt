-- The parser's own scan for tokens that pass a limit on nesting, over the tokens alone. The proofs show that the scan finds
-- the token that the definition over the grammar (`Nesting`) has.
use Rattle.std.specs.Prelude.{ℕ, ◌+◌, ◌-◌, ◌||◌, nat_lt, List, [], ◌∷◌, Bool, Option, None}
use Rattle.array_tokens.specs.Lexemes.{Lexeme, name, word, sign, Spot}
use Rattle.array_tokens.specs.declared.token.Word.TheVariants as words
use Rattle.array_tokens.specs.declared.token.Sign.TheVariants as signs
use Rattle.array_lang.specs.Nesting.{most_marks, most_open, marks_after, first_over}
use Rattle.array_lang.specs.declared.nesting.Reach.{Reach}
use Rattle.array_lang.specs.declared.nesting.Reach.TheVariants.{Outside, Target, Inside}

-- The number of marks of the outermost expression so far.
abbrev pub marks_of : Reach → ℕ
marks_of (Inside m) = m
marks_of r = 0

-- The reach after this token. The sign `[` begins an outermost expression after the name that begins a statement.
abbrev pub reach_after : Reach → Lexeme → Reach
reach_after r (word words.If) = Inside 0
reach_after r (sign signs.Assign) = Inside 0
reach_after r (sign signs.Semicolon) = Outside
reach_after r (sign signs.OpenBlock) = Outside
reach_after r (sign signs.CloseBlock) = Outside
reach_after (Inside m) l = Inside (marks_after m l)
reach_after Outside (name b) = Target
reach_after Target (sign signs.OpenIndex) = Inside 0
reach_after r l = Outside

-- The number of open blocks after this token.
abbrev pub depth_after : ℕ → Lexeme → ℕ
depth_after depth (sign signs.OpenBlock) = depth + 1
depth_after depth (sign signs.CloseBlock) = depth - 1
depth_after depth l = depth

-- Whether this depth or this reach is beyond a limit on nesting.
abbrev pub is_over : ℕ → Reach → Bool
is_over depth r = nat_lt most_open depth || nat_lt most_marks (marks_of r)

-- The index of the first token that passes a limit.
abbrev pub nested_at : Reach → ℕ → List Spot → Option ℕ
nested_at r depth [] = None
nested_at r depth (t ∷ ts) =
    first_over (is_over (depth_after depth t.lexeme) (reach_after r t.lexeme))
    (nested_at (reach_after r t.lexeme) (depth_after depth t.lexeme) ts)

-- The index of the first of all tokens that passes a limit.
abbrev pub first_nested : List Spot → Option ℕ
first_nested tokens = nested_at Outside 0 tokens
