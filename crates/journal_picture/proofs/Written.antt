-- Texts written one behind another.
use Rattle.std.proofs.Common.{◌≡◌, ◌∙◌, ℕ, List, ◌++◌, Result, Ok, Err, is_ok, cond, OnOk, ap, sym, append_assoc}
use Rattle.std.proofs.lemmas.Result.{on_ok_weaker}

pub more : {A : Type 0} (o p q a b : List A) → p ≡ o ++ a → q ≡ p ++ b → q ≡ o ++ (a ++ b)
more o p q a b e f = f ∙ ap (λ x. x ++ b) e ∙ append_assoc o a b

pub on_more : {T E : Type 0} (r : Result T E) (o p q a b : List ℕ) → p ≡ o ++ a → OnOk r (q ≡ p ++ b) → OnOk r (q ≡ o ++ (a ++ b))
on_more r o p q a b e f = on_ok_weaker r (more o p q a b e) f

pub on_three : {T E : Type 0} (r : Result T E) (o p q s a b d : List ℕ) → p ≡ o ++ a → q ≡ p ++ b → OnOk r (s ≡ q ++ d) → OnOk r (s ≡ o ++ ((a ++ b) ++ d))
on_three r o p q s a b d e f g = on_more r o q s (a ++ b) d (more o p q a b e f) g

pub on_four : {T E : Type 0} (r : Result T E) (o p q s t a b d w : List ℕ) → p ≡ o ++ a → q ≡ p ++ b → s ≡ q ++ d → OnOk r (t ≡ s ++ w) → OnOk r (t ≡ o ++ (((a ++ b) ++ d) ++ w))
on_four r o p q s t a b d w e f g h = on_more r o s t ((a ++ b) ++ d) w (more o q s (a ++ b) d (more o p q a b e f) g) h

-- The first three texts belong together.
pub on_five : {T E : Type 0} (r : Result T E) (o p q s t u a b d w x : List ℕ) → p ≡ o ++ a → q ≡ p ++ b → s ≡ q ++ d → t ≡ s ++ w → OnOk r (u ≡ t ++ x) → OnOk r (u ≡ o ++ (((((a ++ b) ++ d)) ++ w) ++ x))
on_five r o p q s t u a b d w x e f g h i = on_more r o t u (((a ++ b) ++ d) ++ w) x (more o s t ((a ++ b) ++ d) w (more o q s (a ++ b) d (more o p q a b e f) g) h) i

-- A turn of a loop that writes what is next of what is left.
pub turn : {A : Type 0} (o p a left after whole : List A) → o ++ left ≡ whole → left ≡ a ++ after → p ≡ o ++ a → p ++ after ≡ whole
turn o p a left after whole so_far next wrote = ap (λ x. x ++ after) wrote ∙ append_assoc o a after ∙ ap (λ x. o ++ x) (sym next) ∙ so_far

-- What was pushed, where there was room.
pub on_pushed : {T E : Type 0} (r : Result T E) (s q a : List ℕ) → s ≡ cond (is_ok r) (q ++ a) q → OnOk r (s ≡ q ++ a)
on_pushed (Ok x) s q a e = e
on_pushed (Err x) s q a e = tt
