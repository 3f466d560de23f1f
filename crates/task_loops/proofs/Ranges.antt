-- Ranges of a list, one behind the other.
use Rattle.std.proofs.Common.{◌≡◌, ◌≤◌, ◌<◌, ◌+◌, ◌-◌, ◌++◌, ℕ, List, [], ◌∷◌, length, get_or, take, drop, sum, ◌%◌, sym, ap, ◌∙◌, subst, arith}
use Rattle.std.specs.List.{AllZip}
use Rattle.std.proofs.Math.Seq.{take-add, take-length}
use Rattle.std.proofs.Math.Nat.{add-mod, mod-add-mod}
use Rattle.std.proofs.lemmas.List.{drop-drop, take_more}
use Rattle.std.proofs.lemmas.List.Sums.{sum_by-append}
use Rattle.task_loops.specs.Ranges.{between}

pub between-between : {X : Type 0} (xs : List X) (low middle high : ℕ) → low ≤ middle → middle ≤ high → between low high xs ≡ between low middle xs ++ between middle high xs
between-between xs low middle high h k =
    let n : high - low ≡ middle - low + (high - middle) = omega arith in
    let m : low + (middle - low) ≡ middle = omega arith in
    ap (λ n. take n (drop low xs)) n ∙ (take-add (middle - low) (high - middle) (drop low xs) ∙ ap (λ ys. take (middle - low) (drop low xs) ++ take (high - middle) ys) (drop-drop (middle - low) low xs ∙ ap (λ n. drop n xs) m))

module _ {A B : Type 0} (R : A → B → Type 0) where
  pub zip_append : (xs us : List A) (ys vs : List B) → AllZip R xs ys → AllZip R us vs → AllZip R (xs ++ us) (ys ++ vs)
  zip_append [] us [] vs z w = w
  zip_append [] us (y ∷ ys) vs z w = absurd z
  zip_append (x ∷ xs) us [] vs z w = absurd z
  zip_append (x ∷ xs) us (y ∷ ys) vs z w = (z.0, zip_append xs us ys vs z.1 w)

  -- The images of two neighbouring ranges, one behind the other.
  pub zip_ranges : (xs : List A) (ys vs all : List B) (low middle high : ℕ) → low ≤ middle → middle ≤ high → all ≡ ys ++ vs
      → AllZip R (between low middle xs) ys → AllZip R (between middle high xs) vs → AllZip R (between low high xs) all
  zip_ranges xs ys vs all low middle high h k e f b =
      subst (λ zs. AllZip R (between low high xs) zs) (sym e) (subst (λ ws. AllZip R ws (ys ++ vs)) (sym (between-between xs low middle high h k)) (zip_append (between low middle xs) (between middle high xs) ys vs f b))

  pub zip_push : (xs : List A) (ys : List B) (x : A) (y : B) → AllZip R xs ys → R x y → AllZip R (xs ++ x ∷ []) (ys ++ y ∷ [])
  zip_push xs ys x y z r = zip_append xs (x ∷ []) ys (y ∷ []) z (r, tt)

-- The sums of two neighbouring ranges.
pub sum_ranges : (xs : List ℕ) (a b c low middle high m : ℕ) → low ≤ middle → middle ≤ high → c ≡ (a + b) % m
    → a ≡ sum (between low middle xs) % m → b ≡ sum (between middle high xs) % m → c ≡ sum (between low high xs) % m
sum_ranges xs a b c low middle high m h k e fa fb =
    let parts : sum (between low high xs) ≡ sum (between low middle xs) + sum (between middle high xs) = ap sum (between-between xs low middle high h k) ∙ sum_by-append (λ x. x) (between low middle xs) (between middle high xs) in
    e ∙ (ap (λ n. (n + b) % m) fa ∙ (ap (λ n. (sum (between low middle xs) % m + n) % m) fb ∙ (sym (add-mod (sum (between low middle xs)) (sum (between middle high xs)) m) ∙ ap (λ n. n % m) (sym parts))))

-- The whole of a list.
pub whole_range : {X : Type 0} (xs : List X) (low high : ℕ) → low ≡ 0 → high ≡ length xs → between low high xs ≡ xs
whole_range xs low high z e =
    let m : high - low ≡ length xs = omega (arith, e, z) in
    ap (λ k. take k (drop low xs)) m ∙ (ap (λ k. take (length xs) (drop k xs)) z ∙ take-length xs)

-- One element more has its image.
pub zip_more : {A B : Type 0} (R : A → B → Type 0) (xs : List A) (i : ℕ) (ys all : List B) (x : A) (y : B) → i < length xs → x ≡ get_or xs i x
    → AllZip R (take i xs) ys → R x y → all ≡ ys ++ y ∷ [] → AllZip R (take (i + 1) xs) all
zip_more R xs i ys all x y lt is z r e =
    subst (λ zs. AllZip R (take (i + 1) xs) zs) (sym e) (subst (λ ws. AllZip R ws (ys ++ y ∷ [])) (sym (take_more xs i x lt ∙ ap (λ z. take i xs ++ z ∷ []) (sym is))) (zip_push R (take i xs) ys x y z r))

-- One number more is added.
pub sum_more : (xs : List ℕ) (i t u x m : ℕ) → i < length xs → x ≡ get_or xs i 0 → t ≡ sum (take i xs) % m → u ≡ (t + x) % m → u ≡ sum (take (i + 1) xs) % m
sum_more xs i t u x m lt is et eu =
    let one : sum (x ∷ []) ≡ x = omega arith in
    let s : sum (take (i + 1) xs) ≡ sum (take i xs) + x = ap sum (take_more xs i 0 lt ∙ ap (λ z. take i xs ++ z ∷ []) (sym is)) ∙ (sum_by-append (λ x. x) (take i xs) (x ∷ []) ∙ ap (λ n. sum (take i xs) + n) one) in
    eu ∙ (ap (λ n. (n + x) % m) et ∙ (mod-add-mod (sum (take i xs)) m x ∙ ap (λ n. n % m) (sym s)))
