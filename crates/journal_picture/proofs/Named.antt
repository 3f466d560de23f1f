-- The names of kinds, and the laws of them.
use Rattle.std.proofs.Common.{◌≡◌, ◌∙◌, ℕ, zero, suc, ◌+◌, ◌-◌, ◌<◌, ◌==◌, cond, Bool, true, false, not, List, [], ◌∷◌, ◌++◌, length, take, drop, replicate, get_or, refl, ap, subst, sym, arith}
use Rattle.std.specs.Prelude.{◌&&◌, nat_le, slice_set}
use Rattle.std.specs.List.{list_all, prefix_len, take_while}
use Rattle.std.proofs.lemmas.Bool.Decides.{nat_tests}
use Rattle.std.proofs.lemmas.List.{drop_more}
use Rattle.journal_picture.specs.Kinds.{KindHasItsName, KindHasNoMarkup, is_letter, is_plain}

-- ---- a name that is copied letter by letter, with zeros behind it
pub set_next : (xs : List ℕ) (n i : ℕ) → i < length xs → i < n
    → slice_set (take i xs ++ replicate (n - i) 0) i (get_or xs i 0) ≡ take (i + 1) xs ++ replicate (n - (i + 1)) 0
set_next [] n i within room = absurd (omega (arith, within))
set_next (x ∷ xs) n zero within room =
    let some : n - 0 ≡ suc (n - (0 + 1)) = omega (arith, room) in
    ap (λ (m : ℕ). slice_set (replicate m 0) 0 x) some
set_next (x ∷ xs) n (suc i) within room =
    let less : n - suc i ≡ n - 1 - i = omega arith in
    let next : n - 1 - (i + 1) ≡ n - (suc i + 1) = omega arith in
    let more : suc i + 1 ≡ suc (i + 1) = omega arith in
    let rest = set_next xs (n - 1) i (omega (arith, within)) (omega (arith, room)) in
    ap (λ (m : ℕ). x ∷ slice_set (take i xs ++ replicate m 0) i (get_or xs i 0)) less
    ∙ (ap (λ ys. x ∷ ys) rest
    ∙ (ap (λ (m : ℕ). x ∷ (take (i + 1) xs ++ replicate m 0)) next
    ∙ ap (λ (m : ℕ). take m (x ∷ xs) ++ replicate (n - (suc i + 1)) 0) (sym more)))

-- ---- a name that is read letter by letter
take_next : (x : ℕ) (xs : List ℕ) → take_while is_letter (x ∷ xs) ≡ cond (is_letter x) (x ∷ take_while is_letter xs) []
take_next x xs = go (is_letter x)
  where
    go : (b : Bool) → take (cond b (1 + prefix_len is_letter xs) 0) (x ∷ xs) ≡ cond b (x ∷ take (prefix_len is_letter xs) xs) []
    go true = let more : 1 + prefix_len is_letter xs ≡ suc (prefix_len is_letter xs) = omega arith in ap (λ (n : ℕ). take n (x ∷ xs)) more
    go false = refl

pub letters_more : (xs : List ℕ) (i : ℕ) → i < length xs → is_letter (get_or xs i 0) ≡ true → take_while is_letter (drop i xs) ≡ get_or xs i 0 ∷ take_while is_letter (drop (i + 1) xs)
letters_more xs i within is = ap (take_while is_letter) (drop_more xs i 0 within) ∙ (take_next (get_or xs i 0) (drop (i + 1) xs) ∙ go (is_letter (get_or xs i 0)) is)
  where
    go : (b : Bool) → b ≡ true → cond b (get_or xs i 0 ∷ take_while is_letter (drop (i + 1) xs)) [] ≡ get_or xs i 0 ∷ take_while is_letter (drop (i + 1) xs)
    go true same = refl
    go false same = absurd (cc)

pub letters_end : (xs : List ℕ) (i : ℕ) → i < length xs → is_letter (get_or xs i 0) ≡ false → take_while is_letter (drop i xs) ≡ []
letters_end xs i within is = ap (take_while is_letter) (drop_more xs i 0 within) ∙ (take_next (get_or xs i 0) (drop (i + 1) xs) ∙ go (is_letter (get_or xs i 0)) is)
  where
    go : (b : Bool) → b ≡ false → cond b (get_or xs i 0 ∷ take_while is_letter (drop (i + 1) xs)) [] ≡ []
    go true same = absurd (cc)
    go false same = refl

pub letter_low : (x : ℕ) → is_letter x ≡ true → x < 128
letter_low x is = grind (arith, nat_tests)

-- ---- laws
both : (a b : Bool) → (a && b) ≡ true → (a ≡ true) × (b ≡ true)
both true b is = (refl, is)
both false b is = absurd (cc)

name_kept : (text : List ℕ) (n : ℕ) → list_all is_letter text ≡ true → take_while is_letter (text ++ replicate n 0) ≡ text
name_kept [] zero all = refl
name_kept [] (suc n) all = refl
name_kept (x ∷ xs) n all = take_next x (xs ++ replicate n 0) ∙ go (is_letter x) (both (is_letter x) (list_all is_letter xs) all).0 (name_kept xs n (both (is_letter x) (list_all is_letter xs) all).1)
  where
    go : (b : Bool) → b ≡ true → take_while is_letter (xs ++ replicate n 0) ≡ xs
        → cond b (x ∷ take_while is_letter (xs ++ replicate n 0)) [] ≡ x ∷ xs
    go true is rest = ap (λ ys. x ∷ ys) rest
    go false is rest = absurd (cc)

pub has_name : KindHasItsName
has_name text is = name_kept text (15 - length text) (both (nat_le (length text) 15) (list_all is_letter text) is).1

letter_plain : (x : ℕ) → is_letter x ≡ true → is_plain x ≡ true
letter_plain x is = go (x == 60) refl
  where
    go : (b : Bool) → (x == 60) ≡ b → not b ≡ true
    go false other = refl
    go true same =
        let at : x ≡ 60 = grind (arith, nat_tests) in
        let none : false ≡ true = subst (λ (y : ℕ). is_letter y ≡ true) at is in
        absurd (cc)

plain_name : (xs : List ℕ) → list_all is_plain (take_while is_letter xs) ≡ true
plain_name [] = refl
plain_name (x ∷ xs) = ap (list_all is_plain) (take_next x xs) ∙ go (is_letter x) refl (plain_name xs)
  where
    go : (b : Bool) → is_letter x ≡ b → list_all is_plain (take_while is_letter xs) ≡ true
        → list_all is_plain (cond b (x ∷ take_while is_letter xs) []) ≡ true
    go false is rest = refl
    go true is rest = subst (λ (y : Bool). (y && list_all is_plain (take_while is_letter xs)) ≡ true) (sym (letter_plain x is)) rest

pub no_kind_markup : KindHasNoMarkup
no_kind_markup kind = plain_name kind.letters
