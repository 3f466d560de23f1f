-- Sums of products, modulo a number, and lists of images.
use Rattle.std.proofs.Common.{◌≡◌, ◌+◌, ◌*◌, ◌%◌, ℕ, List, get_or, refl, sym, ap, subst, add-one, ◌∙◌}
use Rattle.std.proofs.Math.Nat.{mod-add-mod, add-mod-mod}
use Rattle.task_matrix.specs.Product.{dot}

add_product : (s x m : ℕ) → (s % m + x % m) % m ≡ (s + x) % m
add_product s x m = mod-add-mod s m (x % m) ∙ add-mod-mod s x m

-- One product more is added.
pub dot_more : (xs ys : List ℕ) (i s p x y m : ℕ) → s ≡ dot i xs ys % m → x ≡ get_or xs i 0 → y ≡ get_or ys i 0 → p ≡ (s + (x * y) % m) % m → p ≡ dot (i + 1) xs ys % m
dot_more xs ys i s p x y m es ex ey ep =
    let xy : x * y ≡ get_or xs i 0 * get_or ys i 0 = ap (λ n. n * y) ex ∙ ap (λ n. get_or xs i 0 * n) ey in
    let e : p ≡ (dot i xs ys + get_or xs i 0 * get_or ys i 0) % m = ep ∙ (ap (λ n. (n + (x * y) % m) % m) es ∙ (add_product (dot i xs ys) (x * y) m ∙ ap (λ n. (dot i xs ys + n) % m) xy)) in
    subst (λ n. p ≡ dot n xs ys % m) (sym (add-one i)) e
