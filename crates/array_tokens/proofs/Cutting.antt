-- Cutting a text into tokens, from one position to the next.
use Rattle.std.proofs.Common.{◌≡◌, ℕ, zero, suc, ◌+◌, ◌-◌, ◌*◌, ◌<◌, ◌≤◌, ◌==◌, List, [], ◌∷◌, ◌++◌, length, take, drop, Result, Ok, Err, refl, sym, ap, ◌∙◌, arith, add-zero, count_by, fold, false, append_assoc, get_or, nat_le, ◌^◌}
use Rattle.std.proofs.Math.Seq.{drop-cons}
use Rattle.std.proofs.lemmas.List.Sums.{prefix_len-le-length}
use Rattle.array_tokens.specs.Lexemes.{number_of_digits}
use Rattle.std.proofs.lemmas.Bool.Decides.{nat_tests}
use Rattle.std.specs.Prelude.{slice_index}
use Rattle.std.specs.Str.{byte}
use Rattle.array_tokens.specs.Literals.{greatest_literal}
use Rattle.std.proofs.lemmas.Grind.{common_steps}
use Rattle.array_tokens.specs.Lexemes.{Spot, Front, front_of, line_after, with_tokens, then_cut, cut}
use Rattle.array_tokens.specs.declared.fault.TokenFault.{TokenFault}

abbrev pub newlines : List ℕ → ℕ
newlines bytes = count_by (λ b. b == byte "\n") bytes

line_more : (line b : ℕ) (rest : List ℕ) → line_after line b + newlines rest ≡ line + newlines (b ∷ rest)
line_more line b rest = grind (arith, common_steps)

pub cut_inside : (n at line : ℕ) (bytes : List ℕ) → cut n at line bytes ≡ cut 0 (at + n) (line + newlines (take n bytes)) (drop n bytes)
cut_inside zero at line bytes = simp add-zero
cut_inside (suc n) at line [] = refl
cut_inside (suc n) at line (b ∷ bytes) =
    let place : at + 1 + n ≡ at + suc n = omega arith in
    cut_inside n (at + 1) (line_after line b) bytes
    ∙ ap (λ a. cut 0 a (line_after line b + newlines (take n bytes)) (drop n bytes)) place
    ∙ ap (λ l. cut 0 (at + suc n) l (drop n bytes)) (line_more line b (take n bytes))

one_more : (n at line : ℕ) (b : ℕ) (bytes : List ℕ) → 0 < n → cut (n - 1) (at + 1) (line_after line b) bytes ≡ cut 0 (at + n) (line + newlines (take n (b ∷ bytes))) (drop n (b ∷ bytes))
one_more zero at line b bytes h = absurd (omega arith)
one_more (suc n) at line b bytes h = let e : suc n - 1 ≡ n = omega arith in rw e (cut_inside (suc n) at line (b ∷ bytes))

pub cut_step : (bytes : List ℕ) (n at line : ℕ) (front : Front) → 0 < length bytes → 0 < n → (front, n) ≡ front_of (slice_index bytes 0) bytes → cut 0 at line bytes ≡ then_cut front at line (cut 0 (at + n) (line + newlines (take n bytes)) (drop n bytes))
cut_step [] n at line front some long is = absurd (omega arith)
cut_step (b ∷ bytes) n at line front some long is =
    let f : (front_of b (b ∷ bytes)).0 ≡ front = ap (λ p. p.0) (sym is) in
    let k : (front_of b (b ∷ bytes)).1 ≡ n = ap (λ p. p.1) (sym is) in
    ap (λ m. then_cut (front_of b (b ∷ bytes)).0 at line (cut (m - 1) (at + 1) (line_after line b) bytes)) k
    ∙ ap (λ g. then_cut g at line (cut (n - 1) (at + 1) (line_after line b) bytes)) f
    ∙ ap (then_cut front at line) (one_more n at line b bytes long)

pub with_tokens-push : (found : List Spot) (s : Spot) (rest : Result (List Spot) TokenFault) → with_tokens found (with_tokens (s ∷ []) rest) ≡ with_tokens (found ++ s ∷ []) rest
with_tokens-push found s (Ok ts) = ap Ok (sym (append_assoc found (s ∷ []) ts))
with_tokens-push found s (Err e) = refl

pub with_tokens-none : (rest : Result (List Spot) TokenFault) → with_tokens [] rest ≡ rest
with_tokens-none (Ok ts) = refl
with_tokens-none (Err e) = refl

abbrev pub digit_step : ℕ → ℕ → ℕ
digit_step v d = v * 10 + (d - byte "0")

pub digits_grow : (digits : List ℕ) (v : ℕ) → v ≤ fold digit_step v digits
digits_grow [] v = omega arith
digits_grow (d ∷ digits) v = omega (arith, digits_grow digits (digit_step v d))

-- Digits whose value so far exceeds the limit.
pub too_large_from : (digits : List ℕ) (i v : ℕ) → i < length digits → fold digit_step v (drop i digits) ≡ number_of_digits digits → 2 ^ 64 ≤ v * 10 + (get_or digits i 0 - byte "0") → nat_le (number_of_digits digits) greatest_literal ≡ false
too_large_from digits i v within goes_on large =
    let grown : v * 10 + (get_or digits i 0 - byte "0") ≤ fold digit_step v (drop i digits) =
    rw (drop-cons digits i 0) (digits_grow (drop (suc i) digits) (digit_step v (get_or digits i 0))) in
    grind (arith, common_steps, nat_tests)

pub ruleset prefixes = (prefix_len-le-length)
