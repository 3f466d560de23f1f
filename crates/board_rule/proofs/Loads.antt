-- What all seats do at a site, if one of them starts or ends a step.
use Rattle.std.proofs.Common.{◌≡◌, ◌≢◌, ℕ, ◌+◌, Bool, true, false, eqb, cond, eq-eqb, ne_eqb, List, set, refl, ap, subst}
use mathlib.Core.Option.{some}
use lib.ListN.{get_elem?}
use Rattle.board_rule.specs.declared.view.View.{View}
use Rattle.board_rule.specs.declared.view.Doing.{Doing}
use Rattle.board_rule.specs.declared.view.Doing.TheVariants.{Idle}
use Rattle.board_rule.specs.Counts.{Load, no_load, weight, busy_at, part, load}
use Rattle.board_rule.proofs.Totals.{total-set, total-same}

pub part-elsewhere : (d : Doing) (x : ℕ) → busy_at d ≢ x → part d x ≡ no_load
part-elsewhere d x n = rw (ne_eqb (busy_at d) x n) refl

pub part-here : (d : Doing) (x : ℕ) → busy_at d ≡ x → part d x ≡ weight d
part-here d x e = rw (eq-eqb (busy_at d) x e) refl

either_none : (b : Bool) → cond b no_load no_load ≡ no_load
either_none true = refl
either_none false = refl

pub part-idle : (x : ℕ) → part Idle x ≡ no_load
part-idle x = either_none (eqb 0 x)

-- The load c becomes c' if one seat's part was a and is b.
pub record Shifts (c c' a b : Load) : Type 0 where
  pub claims : c'.claims + a.claims ≡ c.claims + b.claims
  pub seals : c'.seals + a.seals ≡ c.seals + b.seals
  pub reserves : c'.reserves + a.reserves ≡ c.reserves + b.reserves
  pub lands : c'.lands + a.lands ≡ c.lands + b.lands
  pub leaves : c'.leaves + a.leaves ≡ c.leaves + b.leaves
  pub credits : c'.credits + a.credits ≡ c.credits + b.credits

pub load-shift : (x : ℕ) (vs : List View) (j : ℕ) (v w : View) (a b : Load) → get_elem? vs j ≡ some v → part v.doing x ≡ a → part w.doing x ≡ b → Shifts (load x vs) (load x (set vs j w)) a b
load-shift x vs j v w a b at was is = let P : Load × Load → Type 0 = λ z. Shifts (load x vs) (load x (set vs j w)) z.0 z.1 in subst P (λ i. (was i, is i)) (record {
  claims = total-set (λ u. (part u.doing x).claims) vs j v w at;
  seals = total-set (λ u. (part u.doing x).seals) vs j v w at;
  reserves = total-set (λ u. (part u.doing x).reserves) vs j v w at;
  lands = total-set (λ u. (part u.doing x).lands) vs j v w at;
  leaves = total-set (λ u. (part u.doing x).leaves) vs j v w at;
  credits = total-set (λ u. (part u.doing x).credits) vs j v w at;
})

-- A seat that does the same at the site leaves the load as it is.
pub load-same : (x : ℕ) (vs : List View) (j : ℕ) (v w : View) → get_elem? vs j ≡ some v → part w.doing x ≡ part v.doing x → load x (set vs j w) ≡ load x vs
load-same x vs j v w at same = λ i. record {
  claims = total-same (λ u. (part u.doing x).claims) vs j v w at (ap (λ (c : Load). c.claims) same) i;
  seals = total-same (λ u. (part u.doing x).seals) vs j v w at (ap (λ (c : Load). c.seals) same) i;
  reserves = total-same (λ u. (part u.doing x).reserves) vs j v w at (ap (λ (c : Load). c.reserves) same) i;
  lands = total-same (λ u. (part u.doing x).lands) vs j v w at (ap (λ (c : Load). c.lands) same) i;
  leaves = total-same (λ u. (part u.doing x).leaves) vs j v w at (ap (λ (c : Load). c.leaves) same) i;
  credits = total-same (λ u. (part u.doing x).credits) vs j v w at (ap (λ (c : Load). c.credits) same) i;
}
