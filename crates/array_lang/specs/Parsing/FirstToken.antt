-- The results of the parser's functions that read the token at the front.
use Rattle.std.specs.Prelude.{◌≡◌, ◌≢◌, Bool, true, false, ℕ, ℤ, pos, neg_ℤ, List, [], ◌∷◌, Option, Some, None, Result, Ok, Err}
use Rattle.std.specs.Borrow.{Bor}
use Rattle.array_tokens.specs.Lexemes.{Lexeme, name, number, word, sign, Spot, spots}
use Rattle.array_tokens.specs.declared.token.Sign.{Sign}
use Rattle.array_tokens.specs.declared.token.Word.{Word}
use Rattle.array_tokens.specs.declared.token.Word.TheVariants as words
use Rattle.array_tokens.specs.declared.token.Token.{Token}
use Rattle.array_tree.specs.declared.tree.Op.{Op}
use Rattle.array_lang.specs.Grammar.{spot, operator_of}
use Rattle.array_lang.specs.declared.operator.Strength.{Strength}
use Rattle.array_lang.specs.declared.operator.Strength.TheVariants.{Comparison, Addition, Product}
use Rattle.array_lang.specs.declared.stop.Stop.{Stop}
use Rattle.array_lang.specs.declared.stop.Stop.TheVariants.{Memory, Unexpected}

-- How strongly an operator of this strength binds to the operand before it. The number 0 is for tokens that are no operator.
abbrev pub pull_at : Strength → ℕ
pull_at Comparison = 1
pull_at Addition = 2
pull_at Product = 3

-- The binding strength of an operator; 0 if there is none.
abbrev pub operator_pull : Option (Strength × Op) → ℕ
operator_pull None = 0
operator_pull (Some o) = pull_at o.0

-- The binding strength of a token.
abbrev pub pull_of : Lexeme → ℕ
pull_of l = operator_pull (operator_of l)

-- The binding strength of the first token.
abbrev pub pull : List Spot → ℕ
pull [] = 0
pull (t ∷ ts) = pull_of t.lexeme

-- The first token.
abbrev pub head_of : List Spot → Option Lexeme
head_of [] = None
head_of (t ∷ ts) = Some t.lexeme

-- Borrowed tokens.
abbrev pub Tokens : Type 0
Tokens = Bor (List Token)

-- The result of a reading function: a value and the tokens after it, or the reason to stop.
abbrev pub Parsed : Type 0 → Type 0
Parsed X = Result (X × Tokens) Stop

-- The tokens s begin with this token, and t follows it.
pub record StartsWith (l : Lexeme) (s t : List Spot) : Type 0 where
  pub at : ℕ
  pub line : ℕ
  pub all : s ≡ spot l at line ∷ t

-- The function stops at the tokens s for this reason, and not because of an allocation failure.
abbrev pub IsRefused : Type 0 → List Spot → Stop → Type 0
IsRefused reason s Memory = ⊥
IsRefused reason s (Unexpected t) = (spots t.now ≡ s) × reason

-- The result is the tokens after this sign, or a refusal if another token is at the front.
abbrev pub IsRestAfter : List Spot → Sign → Result Tokens Stop → Type 0
IsRestAfter s g (Ok t) = StartsWith (sign g) s (spots t.now)
IsRestAfter s g (Err e) = IsRefused (head_of s ≢ Some (sign g)) s e

-- The result is the tokens after this word, or a refusal if another token is at the front.
abbrev pub IsRestAfterWord : List Spot → Word → Result Tokens Stop → Type 0
IsRestAfterWord s w (Ok t) = StartsWith (word w) s (spots t.now)
IsRestAfterWord s w (Err e) = IsRefused (head_of s ≢ Some (word w)) s e

-- Whether the token is a name.
abbrev pub is_name : Option Lexeme → Bool
is_name (Some (name b)) = true
is_name l = false

-- The result is the name at the front and the tokens after it, or a refusal of another token.
abbrev pub IsName : List Spot → Parsed (Bor (List ℕ)) → Type 0
IsName s (Ok r) = StartsWith (name r.0.now) s (spots r.1.now)
IsName s (Err e) = IsRefused (is_name (head_of s) ≡ false) s e

-- Whether the token is a number.
abbrev pub is_number : Option Lexeme → Bool
is_number (Some (number v)) = true
is_number l = false

-- The tokens s begin with a number, and t follows it. The value is `value_of` of that number.
pub record StartsWithNumber (value_of : ℕ → ℤ) (s : List Spot) (value : ℤ)
    (t : List Spot) : Type 0 where
  pub literal : ℕ
  pub starts : StartsWith (number literal) s t
  pub is : value ≡ value_of literal

-- The result is the value of the number at the front and the tokens after it, or a refusal of another token.
abbrev pub IsNumberBy : (ℕ → ℤ) → List Spot → Parsed ℤ → Type 0
IsNumberBy value_of s (Ok r) = StartsWithNumber value_of s r.0 (spots r.1.now)
IsNumberBy value_of s (Err e) = IsRefused (is_number (head_of s) ≡ false) s e

-- The result is the number at the front and the tokens after it, or a refusal of another token.
abbrev pub IsNumber : List Spot → Parsed ℤ → Type 0
IsNumber s r = IsNumberBy pos s r

-- The result is the number at the front, negated, and the tokens after it, or a refusal of another token.
abbrev pub IsNegated : List Spot → Parsed ℤ → Type 0
IsNegated s r = IsNumberBy (λ v. neg_ℤ (pos v)) s r

-- The tokens s begin with this operator, and t follows it.
pub record StartsWithOperator (s : List Spot) (strength : Strength) (op : Op)
    (t : List Spot) : Type 0 where
  pub lexeme : Lexeme
  pub is : operator_of lexeme ≡ Some (strength, op)
  pub starts : StartsWith lexeme s t

-- The result is the operator of this strength at the front and the tokens after it; none if there is no such operator.
abbrev pub IsOperator : List Spot → Strength → Option (Op × Tokens) → Type 0
IsOperator s strength (Some r) = StartsWithOperator s strength r.0 (spots r.1.now)
IsOperator s strength None = pull s ≢ pull_at strength

-- The tokens s begin with the word `array` in this line, and t follows it.
pub record StartsWithArray (s : List Spot) (line : ℕ) (t : List Spot) : Type 0 where
  pub at : ℕ
  pub all : s ≡ spot (word words.Array) at line ∷ t

-- The result is the line of the word `array` at the front and the tokens after it; none for another token.
abbrev pub IsArray : List Spot → Option (ℕ × Tokens) → Type 0
IsArray s (Some r) = StartsWithArray s r.0 (spots r.1.now)
IsArray s None = head_of s ≢ Some (word words.Array)
