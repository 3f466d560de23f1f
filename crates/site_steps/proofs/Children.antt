-- The children of a site in rising order.
use Rattle.std.proofs.Common.{◌≡◌, ◌≢◌, ℕ, zero, suc, ◌-◌, ◌<◌, ◌≤◌, Option, Some, None, refl, subst, arith, inl, inr}
use Rattle.std.proofs.lemmas.Bool.{cases_eq, cases_lt}
use Rattle.transfer_table.specs.Plan.{Plan, IsSite, parent, site_count}
use Rattle.site_steps.specs.Visits.{IsBefore, IsChildIf, sites_from}
use Rattle.site_steps.specs.Children.{NextChild, site_if}

-- A child below the next child above n isn't above n.
pub before_next : (p : Plan) (around n c : ℕ) (next : Option ℕ) → NextChild p around n next → IsSite p c → parent p c ≡ around → IsBefore next c → c ≤ n
before_next p around n c None is site up below = is c site up
before_next p around n c (Some next) is site up below = elim (cases_lt n c) [
  | inl above ↦ absurd (let least = is.least c site up above in omega arith)
  | inr le ↦ le
]

-- If s is no child, the next child above s is the next one above s - 1.
pub next_lower : (p : Plan) (around s : ℕ) (next : Option ℕ) → 1 ≤ s → parent p s ≢ around → NextChild p around s next → NextChild p around (s - 1) next
next_lower p around s None some other is = λ d site up. elim (cases_eq d s) [
  | inl e ↦ absurd (other (subst (λ x. parent p x ≡ around) e up))
  | inr n ↦ let le = is d site up in omega arith
]
next_lower p around s (Some c) some other is = record {
  site = is.site;
  child = is.child;
  above = (let above = is.above in omega arith);
  least = λ d site up above. elim (cases_eq d s) [
    | inl e ↦ absurd (other (subst (λ x. parent p x ≡ around) e up))
    | inr n ↦ is.least d site up (omega arith)
  ];
}

-- A child is its parent's next child above the number before its own.
pub next_itself : (p : Plan) (s : ℕ) → IsSite p s → NextChild p (parent p s) (s - 1) (site_if s)
next_itself p zero site = absurd (omega (arith, site.0))
next_itself p (suc s) site = record { site = site; child = refl; above = omega arith; least = λ d _ _ above. omega arith }

-- There is no child above the last site.
pub next_none : (p : Plan) (around : ℕ) → NextChild p around (site_count p) (site_if 0)
next_none p around = λ d site up. site.1

-- The next child is a child, and fewer sites are left from it on.
pub next_child : (p : Plan) (around n : ℕ) (next : Option ℕ) → NextChild p around n next → IsChildIf p around next
next_child p around n None is = tt
next_child p around n (Some c) is = (is.site, is.child)

pub next_later : (p : Plan) (around n : ℕ) (next : Option ℕ) → IsSite p n → NextChild p around n next → sites_from p next < sites_from p (Some n)
next_later p around n None site is = let most = site.1 in omega arith
next_later p around n (Some c) site is = let above = is.above in let most = is.site.1 in omega arith
