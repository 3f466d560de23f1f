-- Sites within a site.
use Rattle.std.proofs.Common.{◌≡◌, ◌≢◌, ◌↔◌, ℕ, zero, suc, ◌+◌, ◌-◌, ◌<◌, ◌≤◌, Bool, true, false, eqb, nat_lt, eq-eqb, ne_eqb, refl, sym, ap, subst, ◌∙◌, arith}
use Rattle.std.proofs.lemmas.Bool.Decides.{nat_tests}
use mathlib.Core.Logic.{dite}
use native.Mathlib.Decide.{ℕ_discrete}
use Rattle.transfer_table.specs.Plan.{Plan, IsPlan, IsSite, parent, leads_up, IsWithin, is_within, site_count}
use Rattle.transfer_table.specs.Plan.IsWithin.{itself, child}

not_less : (s o : ℕ) → o ≤ s → nat_lt s o ≡ false
not_less s o le = grind (arith, nat_tests)

less : (s o : ℕ) → s < o → nat_lt s o ≡ true
less s o lt = grind (arith, nat_tests)

-- At the site and below it the climb ends at once.
leads_up-stop : (p : Plan) (s n o : ℕ) → o ≤ s → leads_up p s n o ≡ eqb o s
leads_up-stop p s zero o le = refl
leads_up-stop p s (suc n) o le = rw (not_less s o le) refl

leads_up-step : (p : Plan) (s n o : ℕ) → s < o → leads_up p s (suc n) o ≡ leads_up p s n (parent p o)
leads_up-step p s n o lt = rw (less s o lt) refl

-- By cases: the climb ends, or goes on.
by_less : {A : Type 0} (s o : ℕ) → (o ≤ s → A) → (s < o → A) → A
by_less {A = A} s o below above = split (nat_lt s o) refl
  where
    split : (b : Bool) → nat_lt s o ≡ b → A
    split true e = above (grind (arith, nat_tests))
    split false e = below (grind (arith, nat_tests))

leads_up-more : (p : Plan) → IsPlan p → (s n o : ℕ) → o ≤ n → o ≤ site_count p → leads_up p s n o ≡ leads_up p s (suc n) o
leads_up-more p plan s zero o le high = leads_up-stop p s zero o (omega arith) ∙ sym (leads_up-stop p s (suc zero) o (omega arith))
leads_up-more p plan s (suc n) o le high = by_less s o
    (λ b. leads_up-stop p s (suc n) o b ∙ sym (leads_up-stop p s (suc (suc n)) o b))
    (λ a. let up = plan.below o (omega arith) high in leads_up-step p s n o a ∙ (leads_up-more p plan s n (parent p o) (omega arith) (omega arith) ∙ sym (leads_up-step p s (suc n) o a)))

leads_up-any : (p : Plan) → IsPlan p → (s k o : ℕ) → o ≤ site_count p → leads_up p s (k + o) o ≡ is_within p s o
leads_up-any p plan s zero o high = let e : 0 + o ≡ o = omega arith in ap (λ (n : ℕ). leads_up p s n o) e
leads_up-any p plan s (suc k) o high = let e : suc k + o ≡ suc (k + o) = omega arith in ap (λ (n : ℕ). leads_up p s n o) e ∙ (sym (leads_up-more p plan s (k + o) o (omega arith) high) ∙ leads_up-any p plan s k o high)

pub within-itself : (p : Plan) (s : ℕ) → is_within p s s ≡ true
within-itself p s = leads_up-stop p s s s (omega arith) ∙ eq-eqb s s refl

pub within-below : (p : Plan) (s o : ℕ) → o < s → is_within p s o ≡ false
within-below p s o lt = leads_up-stop p s o o (omega arith) ∙ ne_eqb o s (λ z. omega arith)

-- A number above the site is within it iff its parent is.
pub within-step : (p : Plan) → IsPlan p → (s o : ℕ) → s < o → o ≤ site_count p → is_within p s o ≡ is_within p s (parent p o)
within-step p plan s zero lt high = absurd (omega arith)
within-step p plan s (suc m) lt high = let up = plan.below (suc m) (omega arith) high in
    let P : ℕ → Type 0 = λ n. leads_up p s n (parent p (suc m)) ≡ is_within p s (parent p (suc m)) in
    let e : (m - parent p (suc m)) + parent p (suc m) ≡ m = omega arith in
    leads_up-step p s m (suc m) lt ∙ subst P e (leads_up-any p plan s (m - parent p (suc m)) (parent p (suc m)) (omega arith))

-- A number that isn't above the site is within it iff it is the site.
pub within-stop : (p : Plan) (s o : ℕ) → o ≤ s → is_within p s o ≡ eqb o s
within-stop p s o le = leads_up-stop p s o o le

-- What holds of the site, and passes from each parent within to its child, holds of all sites within.
pub within_all : (p : Plan) → IsPlan p → (s : ℕ) (P : ℕ → Type 0) → P s → ((c : ℕ) → IsSite p c → is_within p s (parent p c) ≡ true → P (parent p c) → P c) → (n o : ℕ) → o ≤ n → o ≤ site_count p → is_within p s o ≡ true → P o
within_all p plan s P here down zero o le high w = let z : o ≡ s = let b : eqb o s ≡ true = sym (within-stop p s o (omega arith)) ∙ w in grind (arith, nat_tests) in subst P (sym z) here
within_all p plan s P here down (suc n) o le high w = by_less s o
    (λ b. let z : o ≡ s = let e : eqb o s ≡ true = sym (within-stop p s o b) ∙ w in grind (arith, nat_tests) in subst P (sym z) here)
    (λ a. let up = plan.below o (omega arith) high in let w' : is_within p s (parent p o) ≡ true = sym (within-step p plan s o a high) ∙ w in
    down o (omega arith, high) w' (within_all p plan s P here down n (parent p o) (omega arith) (omega arith) w'))

within_of : (p : Plan) → IsPlan p → (s o : ℕ) → IsSite p s → o ≤ site_count p → IsWithin p s o → is_within p s o ≡ true
within_of p plan s o site high itself = within-itself p s
within_of p plan s o site high (child c in_plan w) = let up = plan.below c in_plan.0 in_plan.1 in let w' = within_of p plan s (parent p c) site (omega arith) w in
    by_less s c
    (λ b. absurd (let f : is_within p s (parent p c) ≡ false = within-below p s (parent p c) (omega arith) in let t : true ≡ false = sym w' ∙ f in cc))
    (λ a. within-step p plan s c a in_plan.1 ∙ w')

-- The test `is_within` is exact.
pub within_is_tested : (p : Plan) (s o : ℕ) → IsPlan p → IsSite p s → IsSite p o → (is_within p s o ≡ true) ↔ IsWithin p s o
within_is_tested p s o plan site in_plan = (
  within_all p plan s (IsWithin p s) itself (λ c c_site _ w. child c c_site w) o o (omega arith) in_plan.1,
  within_of p plan s o site in_plan.1,
)

-- A site within another isn't smaller.
pub within-high : (p : Plan) (s o : ℕ) → is_within p s o ≡ true → s ≤ o
within-high p s o w = by_less o s (λ b. b) (λ a. absurd (let f = within-below p s o a in let t : true ≡ false = sym w ∙ f in cc))

-- A site strictly within another is greater.
pub strictly_within : (p : Plan) (s o : ℕ) → is_within p s o ≡ true → o ≢ s → s < o
strictly_within p s o w n = let h = within-high p s o w in dite (ℕ_discrete o s) (λ z. absurd (n z)) (λ m. by_less s o (λ b. absurd (m (omega arith))) (λ a. a))

-- A parent within is a site.
pub within_site : (p : Plan) → IsPlan p → (s c : ℕ) → IsSite p s → IsSite p c → is_within p s (parent p c) ≡ true → IsSite p (parent p c)
within_site p plan s c site inner w = let h = within-high p s (parent p c) w in let low = site.0 in let high = inner.1 in let up = plan.below c inner.0 inner.1 in (omega arith, omega arith)

-- Sites below a site aren't within it.
pub none_below : (p : Plan) (s j : ℕ) → j < s - 1 → is_within p s (1 + j) ≡ true → ⊥
none_below p s j lt w = let f = within-below p s (1 + j) (omega arith) in let t : true ≡ false = sym w ∙ f in cc
