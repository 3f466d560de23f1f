-- A list that grows by one entry, and the digits of the board word.
use Rattle.std.proofs.Common.{◌≡◌, ◌⊎◌, ℕ, zero, suc, ◌+◌, ◌*◌, ◌^◌, ◌<◌, ◌≤◌, List, [], ◌∷◌, ◌++◌, length, set, get_or, take, add-one, slice_index, slice_get, refl, sym, ap, ◌∙◌, arith, Some, inl, inr, ⊎_elim}
use mathlib.Core.Option.{some, some-injective, some-ne-none}
use lib.ListN.{get_elem?}
use Rattle.std.proofs.Math.Nat.{pow-succ', mul_comm, mul_assoc}
use Rattle.hart_port.specs.Words.{owner_digits}

module _ {A : Type 0} where
  pub get-more : (xs ys : List A) (i : ℕ) (a : A) → slice_get xs i ≡ Some a → slice_get (xs ++ ys) i ≡ Some a
  get-more [] ys i a e = absurd (cc)
  get-more (x ∷ xs) ys zero a e = e
  get-more (x ∷ xs) ys (suc i) a e = get-more xs ys i a e

  pub get-snoc : (xs : List A) (i : ℕ) (e a : A) → slice_get (xs ++ e ∷ []) i ≡ Some a → (slice_get xs i ≡ Some a) ⊎ ((i ≡ length xs) × (e ≡ a))
  get-snoc [] zero e a h = inr (refl, cc)
  get-snoc [] (suc i) e a h = absurd (cc)
  get-snoc (x ∷ xs) zero e a h = inl h
  get-snoc (x ∷ xs) (suc i) e a h = ⊎_elim (λ t. inl t) (λ t. inr (ap suc t.0, t.1)) (get-snoc xs i e a h)

  pub get-last : (xs : List A) (e : A) → slice_get (xs ++ e ∷ []) (length xs) ≡ Some e
  get-last [] e = refl
  get-last (x ∷ xs) e = get-last xs e

  pub get-inside : (xs : List A) (i : ℕ) (a : A) → slice_get xs i ≡ Some a → i < length xs
  get-inside [] i a e = absurd (cc)
  get-inside (x ∷ xs) zero a e = omega arith
  get-inside (x ∷ xs) (suc i) a e = let r = get-inside xs i a e in omega arith

  pub length-snoc : (xs : List A) (e : A) → length (xs ++ e ∷ []) ≡ length xs + 1
  length-snoc [] e = refl
  length-snoc (x ∷ xs) e = let r = length-snoc xs e in omega arith

pub there_at : {A : Type 0} (l : List A) (i : ℕ) (d : A) → i < length l → get_elem? l i ≡ some (get_or l i d)
there_at [] i d h = absurd (omega arith)
there_at (x ∷ xs) zero d h = refl
there_at (x ∷ xs) (suc i) d h = there_at xs i d (omega arith)

pub index_of : {A : Type 0} (l : List A) (i : ℕ) (a d : A) → get_elem? l i ≡ some a → get_or l i d ≡ a
index_of [] i a d e = absurd (some-ne-none a (sym e))
index_of (x ∷ xs) zero a d e = some-injective x a e
index_of (x ∷ xs) (suc i) a d e = index_of xs i a d e

pub get_there : {A : Type 0} (l : List A) (i : ℕ) → i < length l → (a : A) × (slice_get l i ≡ Some a)
get_there [] i h = absurd (omega arith)
get_there (x ∷ xs) zero h = (x, refl)
get_there (x ∷ xs) (suc i) h = get_there xs i (omega arith)

pub take_one : {A : Type 0} (l : List A) (i : ℕ) (a : A) → slice_get l i ≡ Some a → take (suc i) l ≡ take i l ++ a ∷ []
take_one [] i a e = absurd (cc)
take_one (x ∷ xs) zero a e = let same : x ≡ a = cc in ap (λ z. z ∷ []) same
take_one (x ∷ xs) (suc i) a e = ap (λ z. x ∷ z) (take_one xs i a e)

pub take_next : {A : Type 0} (l : List A) (i : ℕ) (a : A) → slice_get l i ≡ Some a → take (i + 1) l ≡ take i l ++ a ∷ []
take_next l i a e = rw (add-one i) (take_one l i a e)

-- A product with one more digit.
one_digit : (a q : ℕ) → a * (4096 * q) ≡ 4096 * (a * q)
one_digit a q = sym (mul_assoc a 4096 q) ∙ ap (λ (z : ℕ). z * q) (mul_comm a 4096) ∙ mul_assoc 4096 a q

pub digits-set : (os : List ℕ) (h v : ℕ) → h < length os → owner_digits (set os h v) + slice_index os h * 4096 ^ h ≡ owner_digits os + v * 4096 ^ h
digits-set [] h v l = absurd (omega arith)
digits-set (o ∷ os) zero v l = omega arith
digits-set (o ∷ os) (suc h) v l = let r = digits-set os h v (omega arith) in let a = one_digit (slice_index os h) (4096 ^ h) in let b = one_digit v (4096 ^ h) in
    rw (pow-succ' 4096 h) (omega arith)

pub digits-small : (os : List ℕ) → ((h : ℕ) → h < length os → slice_index os h ≤ 4095) → owner_digits os < 4096 ^ length os
digits-small [] f = omega arith
digits-small (o ∷ os) f = let r = digits-small os (λ h l. f (suc h) (omega arith)) in let a : o ≤ 4095 = f 0 (omega arith) in rw (pow-succ' 4096 (length os)) (omega arith)
