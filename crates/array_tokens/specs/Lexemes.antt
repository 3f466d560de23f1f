-- How bytes are cut into tokens, the longest token first.
use Rattle.std.specs.Prelude.{ℕ, suc, zero, ◌+◌, ◌-◌, ◌*◌, ◌==◌, nat_lt, nat_le, Bool, ◌||◌, ◌&&◌, not, List, [], ◌∷◌, ◌++◌, map, Option, Some, None, Result, Ok, Err, if◌then◌else◌, take_while, codes, bytes_eq, fold, position, ◌≡◌}
use Rattle.std.specs.List.{prefix_len}
use Rattle.std.specs.Str.{byte}
use Rattle.array_tokens.specs.Literals.{greatest_literal}
use Rattle.array_tokens.specs.declared.token.Word.{Word}
use Rattle.array_tokens.specs.declared.token.Word.TheVariants.{Array, Par, Team, Barrier, For, In, By, If, Else}
use Rattle.array_tokens.specs.declared.token.Sign.{Sign}
use Rattle.array_tokens.specs.declared.token.Sign.TheVariants.{OpenIndex, CloseIndex, OpenBlock, CloseBlock, OpenGroup, CloseGroup, Semicolon, Assign, Plus, Minus, Star, Less, LessEq, Equal, Slash, Percent, Greater, GreaterEq, NotEqual, Range}
use Rattle.array_tokens.specs.declared.token.Kind.{Kind}
use Rattle.array_tokens.specs.declared.token.Kind.TheVariants as kinds
use Rattle.array_tokens.specs.declared.token.Token.{Token}
use Rattle.array_tokens.specs.declared.fault.TokenFault.{TokenFault}
use Rattle.array_tokens.specs.declared.fault.TokenFault.TheVariants.{NotAscii, BadToken, NumberTooLarge, Memory}

-- A token without its position.
pub data Lexeme : Type 0 where
  name : (bytes : List ℕ) → Lexeme
  number : (value : ℕ) → Lexeme
  word : (w : Word) → Lexeme
  sign : (s : Sign) → Lexeme

-- A token: the position of its first byte, and its line.
pub record Spot : Type 0 where
  pub lexeme : Lexeme
  pub at : ℕ
  pub line : ℕ

-- The lexeme of a token's kind.
abbrev pub lexeme_of : Kind → Lexeme
lexeme_of (kinds.Name bytes) = name bytes.now
lexeme_of (kinds.Number literal) = number literal
lexeme_of (kinds.Word w) = word w
lexeme_of (kinds.Sign s) = sign s

-- The spot of a token.
abbrev pub spot_of : Token → Spot
spot_of t = record { lexeme = lexeme_of t.kind; at = t.at; line = t.line }

-- The spots of tokens.
abbrev pub spots : List Token → List Spot
spots tokens = map spot_of tokens

-- What stands at the front of a text.
pub data Front : Type 0 where
  gap : Front
  piece : (l : Lexeme) → Front
  no_token : Front
  too_large : Front

-- Whether a byte is blank: a space, tab, newline or carriage return.
abbrev pub is_blank : ℕ → Bool
is_blank b = b == byte " " || b == byte "\t" || b == byte "\n" || b == byte "\r"

-- Whether a byte is from one to another.
abbrev pub is_from : ℕ → ℕ → ℕ → Bool
is_from first last b = nat_le first b && nat_le b last

-- Whether a byte is a digit.
abbrev pub is_digit : ℕ → Bool
is_digit b = is_from (byte "0") (byte "9") b

-- Whether a byte is a letter or `_`.
abbrev pub is_letter : ℕ → Bool
is_letter b = is_from (byte "A") (byte "Z") b || is_from (byte "a") (byte "z") b || b == byte "_"

-- Whether a byte may occur in a name.
abbrev pub is_name_byte : ℕ → Bool
is_name_byte b = is_letter b || is_digit b

-- Whether a byte isn't a newline.
abbrev pub is_in_line : ℕ → Bool
is_in_line b = not (b == byte "\n")

-- The number that digits spell, the highest first.
abbrev pub number_of_digits : List ℕ → ℕ
number_of_digits digits = fold (λ v d. v * 10 + (d - byte "0")) 0 digits

-- What stands beside this text in a table.
abbrev pub entry_of : {X : Type 0} → List (List ℕ × X) → List ℕ → Option X
entry_of [] text = None
entry_of (entry ∷ rest) text = if bytes_eq text entry.0 then Some entry.1 else entry_of rest text

-- The words of the language, with their texts.
abbrev pub words : List (List ℕ × Word)
words =
    (codes "array", Array) ∷ (codes "par", Par) ∷ (codes "team", Team)
    ∷ (codes "barrier", Barrier) ∷ (codes "for", For) ∷ (codes "in", In)
    ∷ (codes "by", By) ∷ (codes "if", If) ∷ (codes "else", Else) ∷ []

-- The word with this text.
abbrev pub word_of : List ℕ → Option Word
word_of text = entry_of words text

-- The word of these bytes, or else the name.
abbrev pub named : List ℕ → Option Word → Lexeme
named bytes (Some w) = word w
named bytes None = name bytes

-- The signs of the language, with their texts.
abbrev pub signs : List (List ℕ × Sign)
signs =
    (codes "[", OpenIndex) ∷ (codes "]", CloseIndex) ∷ (codes "{", OpenBlock)
    ∷ (codes "}", CloseBlock) ∷ (codes "(", OpenGroup) ∷ (codes ")", CloseGroup)
    ∷ (codes ";", Semicolon) ∷ (codes "=", Assign) ∷ (codes "+", Plus) ∷ (codes "-", Minus)
    ∷ (codes "*", Star) ∷ (codes "/", Slash) ∷ (codes "%", Percent) ∷ (codes "<", Less)
    ∷ (codes ">", Greater) ∷ (codes "<=", LessEq) ∷ (codes ">=", GreaterEq)
    ∷ (codes "==", Equal) ∷ (codes "!=", NotEqual) ∷ (codes "..", Range) ∷ []

-- The sign with this text.
abbrev pub sign_of : List ℕ → Option Sign
sign_of text = entry_of signs text

-- The longer of two signs, that of two bytes and that of one, and its length.
abbrev pub longest : Option Sign → Option Sign → Front × ℕ
longest (Some s) one = (piece (sign s), 2)
longest None (Some s) = (piece (sign s), 1)
longest None None = (no_token, 1)

-- The sign at the front of a text, and its length.
abbrev pub sign_front : List ℕ → Front × ℕ
sign_front [] = (no_token, 1)
sign_front (b ∷ []) = longest None (sign_of (b ∷ []))
sign_front (b ∷ c ∷ rest) = longest (sign_of (b ∷ c ∷ [])) (sign_of (b ∷ []))

-- The word or name of these bytes.
abbrev pub name_front : List ℕ → Front
name_front bytes = piece (named bytes (word_of bytes))

-- The number of these digits, if it isn't too large.
abbrev pub number_front : List ℕ → Front
number_front digits = if nat_le (number_of_digits digits) greatest_literal
    then piece (number (number_of_digits digits)) else too_large

-- What stands at the front of bytes that begin with the byte, the longest token first, and how many bytes it takes.
abbrev pub front_of : ℕ → List ℕ → Front × ℕ
front_of first bytes =
    if is_blank first then (gap, 1)
    else if first == byte "#" then (gap, prefix_len is_in_line bytes)
    else if is_letter first then
    (name_front (take_while is_name_byte bytes), prefix_len is_name_byte bytes)
    else if is_digit first then
    (number_front (take_while is_digit bytes), prefix_len is_digit bytes)
    else sign_front bytes

-- The line after a byte.
abbrev pub line_after : ℕ → ℕ → ℕ
line_after line b = if b == byte "\n" then line + 1 else line

-- Tokens, and then those of the rest, or its fault.
abbrev pub with_tokens : List Spot → Result (List Spot) TokenFault → Result (List Spot) TokenFault
with_tokens front (Ok rest) = Ok (front ++ rest)
with_tokens front (Err fault) = Err fault

-- The tokens of a front and the rest.
abbrev pub then_cut : Front → ℕ → ℕ → Result (List Spot) TokenFault → Result (List Spot) TokenFault
then_cut gap at line rest = rest
then_cut (piece l) at line rest =
    with_tokens (record { lexeme = l; at = at; line = line } ∷ []) rest
then_cut no_token at line rest = Err (BadToken at)
then_cut too_large at line rest = Err (NumberTooLarge at)

-- The tokens of a text, or the first fault of cutting it. The first bytes, as many as the first number says,
-- belong to what was cut before.
abbrev pub cut : ℕ → ℕ → ℕ → List ℕ → Result (List Spot) TokenFault
cut inside at line [] = Ok []
cut zero at line (b ∷ bytes) =
    then_cut (front_of b (b ∷ bytes)).0 at line
    (cut ((front_of b (b ∷ bytes)).1 - 1) (at + 1) (line_after line b) bytes)
cut (suc inside) at line (b ∷ bytes) = cut inside (at + 1) (line_after line b) bytes

-- Whether a byte is ASCII.
abbrev pub is_ascii : ℕ → Bool
is_ascii b = nat_lt b 128

-- The tokens of a text, or the error at its first byte that isn't ASCII.
abbrev pub cut_ascii : Option ℕ → List ℕ → Result (List Spot) TokenFault
cut_ascii None text = cut 0 0 1 text
cut_ascii (Some at) text = Err (NotAscii at)

-- The tokens of a text, or its first fault.
abbrev pub tokens_of : List ℕ → Result (List Spot) TokenFault
tokens_of text = cut_ascii (position (λ b. not (is_ascii b)) text) text

-- The result of a function, seen by view, is this, unless an allocation failed.
abbrev pub Fails : {Y : Type 0} → TokenFault → Result Y TokenFault → Type 0
Fails Memory expected = Unit {0}
Fails fault expected = expected ≡ Err fault

-- The result of a function, seen by view, is the expected one, unless an allocation failed.
abbrev pub Gives : {X Y : Type 0} → (X → Y) → Result X TokenFault → Result Y TokenFault → Type 0
Gives view (Ok x) expected = expected ≡ Ok (view x)
Gives view (Err fault) expected = Fails fault expected
