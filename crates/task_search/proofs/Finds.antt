-- The first element that passes a test, in lists one after another.
use Rattle.std.proofs.Common.{◌≡◌, ℕ, ◌+◌, ◌<◌, Bool, Option, None, Some, List, [], ◌∷◌, ◌++◌, ◌∙◌, length, get_or, take, drop, ap, sym, subst, refl, Bor}
use Rattle.std.specs.List.{AllZip, find, flat_map, fold}
use Rattle.std.specs.Option.{option_copied, option_or}
use Rattle.std.proofs.lemmas.List.{append-nil, take-append-drop, take_more}
use Rattle.std.proofs.lemmas.List.Concat.{flat_map-cons}
use Rattle.std.proofs.lemmas.List.Folds.{find-append}
use Rattle.std.proofs.lemmas.Grind.{flat_map-append}
use Rattle.std.proofs.lemmas.Slice.Zip.{all_zipped_more}

-- if the first i lists have none, it is that of the next list
pub find_through : {X A : Type 0} (f : X → List A) (p : A → Bool) (xs : List X) (i : ℕ) (x : X) → i < length xs → x ≡ get_or xs i x → find p (flat_map f (take i xs)) ≡ None → find p (flat_map f (take (i + 1) xs)) ≡ find p (f x)
find_through f p xs i x within is none =
    simp (take_more xs i x within, flat_map-append, flat_map-cons, append-nil, find-append, none)
    (ap (λ y. find p (f y)) (sym is))

-- if the first i lists have one, it is that of them all
pub find_stays : {X A : Type 0} (f : X → List A) (p : A → Bool) (xs : List X) (i : ℕ) (a : A) → find p (flat_map f (take i xs)) ≡ Some a → find p (flat_map f xs) ≡ Some a
find_stays f p xs i a found =
    let split : find p (flat_map f (take i xs ++ drop i xs)) ≡ Some a = simp (flat_map-append, find-append, found) in
    subst (λ ys. find p (flat_map f ys) ≡ Some a) (take-append-drop i xs) split

-- Either, and then a third.
option_or_assoc : {A : Type 0} (a b c : Option A) → option_or (option_or a b) c ≡ option_or a (option_or b c)
option_or_assoc None b c = refl
option_or_assoc (Some x) b c = refl

option_or-none : {A : Type 0} (a : Option A) → option_or a None ≡ a
option_or-none None = refl
option_or-none (Some x) = refl

option_copied-option_or : {A : Type 0} (a b : Option (Bor A)) → option_copied (option_or a b) ≡ option_or (option_copied a) (option_copied b)
option_copied-option_or None b = refl
option_copied-option_or (Some x) b = refl

-- The first of what was found in each list is that of them all.
pub find_among : {X A : Type 0} (f : X → List A) (p : A → Bool) (first : Option (Bor A)) (xs : List X) (found : List (Option (Bor A))) → AllZip (λ x one. option_copied one ≡ find p (f x)) xs found → option_copied (fold option_or first found) ≡ option_or (option_copied first) (find p (flat_map f xs))
find_among f p first [] [] each = sym (option_or-none (option_copied first))
find_among f p first [] (one ∷ found) each = absurd each
find_among f p first (x ∷ xs) [] each = absurd each
find_among f p first (x ∷ xs) (one ∷ found) each =
    let rest = find_among f p (option_or first one) xs found each.1 in
    let here = option_copied-option_or first one ∙ ap (λ o. option_or (option_copied first) o) each.0 in
    let whole = ap (find p) (flat_map-cons f x xs) ∙ find-append p (f x) (flat_map f xs) in
    rest
    ∙ ap (λ o. option_or o (find p (flat_map f xs))) here
    ∙ option_or_assoc (option_copied first) (find p (f x)) (find p (flat_map f xs))
    ∙ ap (λ o. option_or (option_copied first) o) (sym whole)

-- A step of a loop that pairs each element with one of its own.
pub AllZip-more : {A B : Type 0} (R : A → B → Type 0) (xs : List A) (i : ℕ) (x : A) (ys : List B) (y : B) → i < length xs → x ≡ get_or xs i x → AllZip R (take i xs) ys → R x y → AllZip R (take (i + 1) xs) (ys ++ y ∷ [])
AllZip-more R xs i x ys y within is before here =
    subst (λ zs. AllZip R zs (ys ++ y ∷ []))
    (ap (λ z. take i xs ++ z ∷ []) is ∙ sym (take_more xs i x within))
    (all_zipped_more R (take i xs) ys x y before here)
