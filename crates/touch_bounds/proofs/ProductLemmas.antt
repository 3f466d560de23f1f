-- Products, quotients and remainders between bounds.
use Rattle.std.proofs.Common.{◌≡◌, ℕ, zero, suc, ◌/◌, ◌<◌, ◌≤◌, ℤ, pos, negsuc, ◌*ℤ◌, ◌≤ℤ◌, ◌<ℤ◌, w64, arith, sym, subst, refl, ap}
use lib.IntN.{*ℤ_comm}
use Rattle.std.specs.Prelude.{FitsSigned, int_div}
use Rattle.std.proofs.lemmas.Int.{ints, to_z-of_z, int_wrap_fits}
use Rattle.std.proofs.lemmas.Nat.{mul-le, le-div}
use Rattle.std.proofs.Math.Nat.{div-mul-le_self, mod-eq_of_lt}
use Rattle.array_meaning.specs.Values.{wrapping_product, quotient, remainder}
use Rattle.touch_bounds.specs.declared.interval.Interval.{Interval}
use Rattle.touch_bounds.specs.Intervals.{LiesIn, LeadInto}
use Rattle.touch_bounds.proofs.SumLemmas.{between_fits, AreFit, seen, Checked}

-- ---- products

rises : (k : ℕ) (a b : ℤ) → a ≤ℤ b → (pos k *ℤ a) ≤ℤ (pos k *ℤ b)
rises k (pos a) (pos b) h = omega (arith, ints, mul-le k a k b (omega arith) (omega (arith, ints)))
rises k (pos a) (negsuc b) h = absurd (omega (arith, ints))
rises k (negsuc a) (pos b) h = omega (arith, ints)
rises k (negsuc a) (negsuc b) h = omega (arith, ints, mul-le k (suc b) k (suc a) (omega arith) (omega (arith, ints)))

falls : (k : ℕ) (a b : ℤ) → a ≤ℤ b → (negsuc k *ℤ b) ≤ℤ (negsuc k *ℤ a)
falls k (pos a) (pos b) h = omega (arith, ints, mul-le (suc k) a (suc k) b (omega arith) (omega (arith, ints)))
falls k (pos a) (negsuc b) h = absurd (omega (arith, ints))
falls k (negsuc a) (pos b) h = omega (arith, ints)
falls k (negsuc a) (negsuc b) h = omega (arith, ints, mul-le (suc k) (suc b) (suc k) (suc a) (omega arith) (omega (arith, ints)))

-- If an interval has the products at both ends, it has each product between them.
corner : (noted : Interval) (k m n y : ℤ) → LiesIn noted (k *ℤ m) → LiesIn noted (k *ℤ n) → m ≤ℤ y → y ≤ℤ n → LiesIn noted (k *ℤ y)
corner noted (pos k) m n y hm hn low high =
    let below = rises k m y low in let above = rises k y n high in
    record { low = omega (arith, ints); high = omega (arith, ints) }
corner noted (negsuc k) m n y hm hn low high =
    let below = falls k y n high in let above = falls k m y low in
    record { low = omega (arith, ints); high = omega (arith, ints) }

pub corners : (noted : Interval) (l h m n x y : ℤ) → LiesIn noted (l *ℤ m) → LiesIn noted (l *ℤ n) → LiesIn noted (h *ℤ m) → LiesIn noted (h *ℤ n) →
    l ≤ℤ x → x ≤ℤ h → m ≤ℤ y → y ≤ℤ n → LiesIn noted (x *ℤ y)
corners noted l h m n x y lm ln hm hn lx xh my yn =
    let low = corner noted l m n y lm ln my yn in
    let high = corner noted h m n y hm hn my yn in
    let turned = λ (z : ℤ) (p : LiesIn noted (z *ℤ y)). subst (LiesIn noted) (*ℤ_comm z y) p in
    subst (LiesIn noted) (*ℤ_comm y x) (corner noted y l h x (turned l low) (turned h high) lx xh)

-- An interval has a product if it has the checked one.
at_product : (noted : Interval) (l m r : ℤ) → FitsSigned w64 l → FitsSigned w64 m → Checked r (seen l *ℤ seen m) → LiesIn noted (seen r) → LiesIn noted (l *ℤ m)
at_product noted l m r fl fm e h =
    let fr : FitsSigned w64 r = subst (FitsSigned w64) (sym e.1) e.0 in
    let here : LiesIn noted r = rw (to_z-of_z w64 r fr) at h in
    let p : r ≡ seen l *ℤ seen m = e.1 in
    let q : r ≡ l *ℤ m = rw (to_z-of_z w64 l fl, to_z-of_z w64 m fm) at p in
    subst (LiesIn noted) q here

pub product_lies : (left right noted : Interval) (ll lh hl hh : ℤ) → AreFit left → AreFit right → AreFit noted →
    Checked ll (seen left.least *ℤ seen right.least) → Checked lh (seen left.least *ℤ seen right.greatest) →
    Checked hl (seen left.greatest *ℤ seen right.least) → Checked hh (seen left.greatest *ℤ seen right.greatest) →
    LiesIn noted (seen ll) → LiesIn noted (seen lh) → LiesIn noted (seen hl) → LiesIn noted (seen hh) → LeadInto wrapping_product left right noted
product_lies left right noted ll lh hl hh fl fr ft a b c d p q r s x y hx hy =
    let inside = corners noted left.least left.greatest right.least right.greatest x y
    (at_product noted left.least right.least ll fl.least fr.least a p)
    (at_product noted left.least right.greatest lh fl.least fr.greatest b q)
    (at_product noted left.greatest right.least hl fl.greatest fr.least c r)
    (at_product noted left.greatest right.greatest hh fl.greatest fr.greatest d s)
    hx.low hx.high hy.low hy.high in
    subst (LiesIn noted) (sym (int_wrap_fits w64 (x *ℤ y) (between_fits noted.least (x *ℤ y) noted.greatest ft.least ft.greatest inside.low inside.high))) inside

-- ---- quotients

div-le : (a b k : ℕ) → 0 < k → a ≤ b → a / k ≤ b / k
div-le a b k some h = le-div (a / k) b k some (omega (arith, div-mul-le_self a k))

quotient_rises : (k : ℕ) (a b : ℤ) → a ≤ℤ b → int_div a (pos (suc k)) ≤ℤ int_div b (pos (suc k))
quotient_rises k (pos a) (pos b) h = omega (arith, ints, div-le a b (suc k) (omega arith) (omega (arith, ints)))
quotient_rises k (pos a) (negsuc b) h = absurd (omega (arith, ints))
quotient_rises k (negsuc a) (pos b) h = omega (arith, ints)
quotient_rises k (negsuc a) (negsuc b) h = omega (arith, ints, div-le (suc b) (suc a) (suc k) (omega arith) (omega (arith, ints)))

quotient_falls : (k : ℕ) (a b : ℤ) → a ≤ℤ b → int_div b (negsuc k) ≤ℤ int_div a (negsuc k)
quotient_falls k (pos a) (pos b) h = omega (arith, ints, div-le a b (suc k) (omega arith) (omega (arith, ints)))
quotient_falls k (pos a) (negsuc b) h = absurd (omega (arith, ints))
quotient_falls k (negsuc a) (pos b) h = omega (arith, ints)
quotient_falls k (negsuc a) (negsuc b) h = omega (arith, ints, div-le (suc b) (suc a) (suc k) (omega arith) (omega (arith, ints)))

-- If an interval has the quotients at both ends, it has each quotient between them, and none wraps.
pub quotient_between : (noted : Interval) (d l h x : ℤ) → AreFit noted → ¬ (d ≡ pos 0) → LiesIn noted (int_div l d) → LiesIn noted (int_div h d) → l ≤ℤ x → x ≤ℤ h →
    LiesIn noted (quotient x d)
quotient_between noted (pos zero) l h x ft some hl hh low high = absurd (some refl)
quotient_between noted (pos (suc k)) l h x ft some hl hh low high =
    let below = quotient_rises k l x low in let above = quotient_rises k x h high in
    let inside : LiesIn noted (int_div x (pos (suc k))) = record { low = omega (arith, ints); high = omega (arith, ints) } in
    subst (LiesIn noted) (sym (to_z-of_z w64 (int_div x (pos (suc k))) (between_fits noted.least (int_div x (pos (suc k))) noted.greatest ft.least ft.greatest inside.low inside.high))) inside
quotient_between noted (negsuc k) l h x ft some hl hh low high =
    let below = quotient_falls k x h high in let above = quotient_falls k l x low in
    let inside : LiesIn noted (int_div x (negsuc k)) = record { low = omega (arith, ints); high = omega (arith, ints) } in
    subst (LiesIn noted) (sym (to_z-of_z w64 (int_div x (negsuc k)) (between_fits noted.least (int_div x (negsuc k)) noted.greatest ft.least ft.greatest inside.low inside.high))) inside

-- An interval has a quotient if it has the checked one.
pub at_quotient : (noted : Interval) (a d r : ℤ) → FitsSigned w64 a → FitsSigned w64 d → FitsSigned w64 (int_div (seen a) (seen d)) →
    r ≡ int_div (seen a) (seen d) → LiesIn noted (seen r) → LiesIn noted (int_div a d)
at_quotient noted a d r fa fd f e h =
    let fr : FitsSigned w64 r = subst (FitsSigned w64) (sym e) f in
    let here : LiesIn noted r = rw (to_z-of_z w64 r fr) at h in
    let q : r ≡ int_div a d = rw (to_z-of_z w64 a fa, to_z-of_z w64 d fd) at e in
    subst (LiesIn noted) q here

-- ---- remainders

pub remainder_same : (x d : ℤ) → pos 0 ≤ℤ x → x <ℤ d → remainder x d ≡ x
remainder_same x (pos zero) low h = absurd (omega (arith, ints))
remainder_same (pos a) (pos (suc k)) low h = ap pos (mod-eq_of_lt (let small : a < suc k = omega (arith, ints) in small))
remainder_same (negsuc a) (pos (suc k)) low h = absurd (omega (arith, ints))
remainder_same x (negsuc k) low h = absurd (omega (arith, ints))
