-- The names and numbers among the tokens of a text.
use Rattle.std.proofs.Common.{◌≡◌, ◌≤◌, ℕ, zero, suc, ◌+◌, ◌-◌, ◌==◌, List, [], ◌∷◌, take, Bool, true, false, cond, nat_le, Option, None, Some, Result, Ok, Err, refl, sym, ap, ◌∙◌, subst, arith}
use Rattle.std.specs.List.{prefix_len, take_while}
use Rattle.std.proofs.lemmas.Bool.Decides.{nat_tests}
use Rattle.std.specs.Str.{byte}
use Rattle.array_tokens.specs.Literals.{greatest_literal}
use Rattle.array_tokens.specs.Lexemes.{Lexeme, name, number, word, sign, Spot, Front, gap, piece, no_token, too_large, is_blank, is_digit, is_letter, is_name_byte, is_in_line, number_of_digits, word_of, named, sign_of, longest, sign_front, name_front, number_front, front_of, line_after, then_cut, cut, cut_ascii, tokens_of}
use Rattle.array_tokens.specs.declared.token.Word.{Word}
use Rattle.array_tokens.specs.declared.token.Sign.{Sign}
use Rattle.array_tokens.specs.declared.fault.TokenFault.{TokenFault}
use Rattle.array_print.specs.Writable.{AreNameBytes, IsName}

-- A name that texts can spell, and a number that they can spell.
abbrev pub IsGood : Lexeme → Type 0
IsGood (name b) = IsName b
IsGood (number v) = v ≤ greatest_literal
IsGood (word w) = Unit {0}
IsGood (sign s) = Unit {0}

abbrev pub AreGood : List Spot → Type 0
AreGood [] = Unit {0}
AreGood (t ∷ ts) = IsGood t.lexeme × AreGood ts

abbrev FrontIsGood : Front → Type 0
FrontIsGood gap = Unit {0}
FrontIsGood (piece l) = IsGood l
FrontIsGood no_token = Unit {0}
FrontIsGood too_large = Unit {0}

-- Either side of a choice.
either : {X : Type 0} (P : X → Type 0) (b : Bool) (x y : X) → (b ≡ true → P x) → (b ≡ false → P y) → P (cond b x y)
either P true x y f g = f refl
either P false x y f g = g refl

name_head : (b : ℕ) (bs : List ℕ) (c : Bool) → is_name_byte b ≡ c → AreNameBytes (take_while is_name_byte bs) → AreNameBytes (take (cond c (1 + prefix_len is_name_byte bs) 0) (b ∷ bs))
name_head b bs true h rest =
    let more : 1 + prefix_len is_name_byte bs ≡ suc (prefix_len is_name_byte bs) = omega arith in
    subst (λ n. AreNameBytes (take n (b ∷ bs))) (sym more) (h, rest)
name_head b bs false h rest = tt

name_bytes : (bs : List ℕ) → AreNameBytes (take_while is_name_byte bs)
name_bytes [] = tt
name_bytes (b ∷ bs) = name_head b bs (is_name_byte b) refl (name_bytes bs)

letter_in_name : (b : ℕ) → is_letter b ≡ true → is_name_byte b ≡ true
letter_in_name b h = grind (arith, nat_tests)

named_good : (b : ℕ) (bs : List ℕ) (o : Option Word) → is_letter b ≡ true → AreNameBytes bs → word_of (b ∷ bs) ≡ o → IsGood (named (b ∷ bs) o)
named_good b bs None letter bytes w = (letter, bytes, w)
named_good b bs (Some w) letter bytes e = tt

name_good : (b : ℕ) (bs : List ℕ) → is_letter b ≡ true → FrontIsGood (name_front (take_while is_name_byte (b ∷ bs)))
name_good b bs letter =
    let more : 1 + prefix_len is_name_byte bs ≡ suc (prefix_len is_name_byte bs) = omega arith in
    let e : take_while is_name_byte (b ∷ bs) ≡ b ∷ take_while is_name_byte bs =
    ap (λ c. take (cond c (1 + prefix_len is_name_byte bs) 0) (b ∷ bs)) (letter_in_name b letter) ∙ ap (λ n. take n (b ∷ bs)) more in
    subst (λ l. FrontIsGood (name_front l)) (sym e) (named_good b (take_while is_name_byte bs) (word_of (b ∷ take_while is_name_byte bs)) letter (name_bytes bs) refl)

number_good : (ds : List ℕ) → FrontIsGood (number_front ds)
number_good ds =
    either FrontIsGood (nat_le (number_of_digits ds) greatest_literal) (piece (number (number_of_digits ds))) too_large (λ h. grind (arith, nat_tests)) (λ h. tt)

longest_good : (two one : Option Sign) → FrontIsGood (longest two one).0
longest_good (Some s) one = tt
longest_good None (Some s) = tt
longest_good None None = tt

sign_good : (bs : List ℕ) → FrontIsGood (sign_front bs).0
sign_good [] = tt
sign_good (b ∷ []) = longest_good None (sign_of (b ∷ []))
sign_good (b ∷ c ∷ rest) = longest_good (sign_of (b ∷ c ∷ [])) (sign_of (b ∷ []))

abbrev StandsGood : Front × ℕ → Type 0
StandsGood f = FrontIsGood f.0

front_good : (b : ℕ) (bs : List ℕ) → FrontIsGood (front_of b (b ∷ bs)).0
front_good b bs =
    either StandsGood (is_blank b) (gap, 1) _ (λ h. tt) (λ h.
    either StandsGood (b == byte "#") (gap, prefix_len is_in_line (b ∷ bs)) _ (λ h. tt) (λ h.
    either StandsGood (is_letter b) (name_front (take_while is_name_byte (b ∷ bs)), prefix_len is_name_byte (b ∷ bs)) _ (λ h. name_good b bs h) (λ h.
    either StandsGood (is_digit b) (number_front (take_while is_digit (b ∷ bs)), prefix_len is_digit (b ∷ bs)) (sign_front (b ∷ bs)) (λ h. number_good (take_while is_digit (b ∷ bs))) (λ h. sign_good (b ∷ bs)))))

abbrev ResultIsGood : Result (List Spot) TokenFault → Type 0
ResultIsGood (Ok ts) = AreGood ts
ResultIsGood (Err e) = Unit {0}

piece_good : (l : Lexeme) (at line : ℕ) (rest : Result (List Spot) TokenFault) → IsGood l → ResultIsGood rest → ResultIsGood (then_cut (piece l) at line rest)
piece_good l at line (Ok ts) g h = (g, h)
piece_good l at line (Err e) g h = tt

then_good : (f : Front) (at line : ℕ) (rest : Result (List Spot) TokenFault) → FrontIsGood f → ResultIsGood rest → ResultIsGood (then_cut f at line rest)
then_good gap at line rest g h = h
then_good (piece l) at line rest g h = piece_good l at line rest g h
then_good no_token at line rest g h = tt
then_good too_large at line rest g h = tt

cut_good : (bytes : List ℕ) (inside at line : ℕ) → ResultIsGood (cut inside at line bytes)
cut_good [] inside at line = nothing inside
  where
    nothing : (inside : ℕ) → ResultIsGood (cut inside at line [])
    nothing zero = tt
    nothing (suc n) = tt
cut_good (b ∷ bytes) zero at line =
    then_good (front_of b (b ∷ bytes)).0 at line (cut ((front_of b (b ∷ bytes)).1 - 1) (at + 1) (line_after line b) bytes) (front_good b bytes)
    (cut_good bytes ((front_of b (b ∷ bytes)).1 - 1) (at + 1) (line_after line b))
cut_good (b ∷ bytes) (suc n) at line = cut_good bytes n (at + 1) (line_after line b)

ascii_good : (o : Option ℕ) (text : List ℕ) → ResultIsGood (cut_ascii o text)
ascii_good None text = cut_good text 0 0 1
ascii_good (Some at) text = tt

whole_good : (text : List ℕ) → ResultIsGood (tokens_of text)
whole_good text = ascii_good _ text

-- The tokens of a text are good.
pub tokens_good : (text : List ℕ) (tokens : List Spot) → tokens_of text ≡ Ok tokens → AreGood tokens
tokens_good text tokens e = subst ResultIsGood e (whole_good text)
