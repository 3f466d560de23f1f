-- What a port learns from a look at the owner.
use Rattle.std.proofs.Common.{◌≡◌, ◌≢◌, ◌⊎◌, ℕ, zero, suc, ◌<◌, List, Bool, true, false, not, ◌&&◌, ◌||◌, eqb, eq-eqb, inl, inr, ⊎_elim, refl, ap, arith}
use Rattle.std.proofs.lemmas.Bool.{eqb-true}
use Rattle.hart_port.specs.PortView.{Sees as PortSees}
use Rattle.hart_port.specs.Words.{owner_field, IsOther}
use Rattle.hart_port.specs.declared.port.Seen.{Seen}
use Rattle.hart_port.specs.declared.port.Seen.TheVariants.{Empty, Flying, Held}
use Rattle.board_rule.specs.declared.layout.Layout.{Layout}
use Rattle.board_rule.specs.declared.layout.Layout.TheVariants.{Owners, Guests}
use Rattle.board_rule.specs.declared.view.View.{View}
use Rattle.board_rule.specs.Words.{others_at}
use Rattle.board_rule.proofs.Looks.{none_at}
use Rattle.lent_board.specs.Calls.{Sees}
use Rattle.lent_board.specs.PortViews.{shared_view}

either : (a b : Bool) → (a || b) ≡ true → (a ≡ true) ⊎ (b ≡ true)
either true b e = inl refl
either false b e = inr e

both : (a b : Bool) → (a && b) ≡ true → (a ≡ true) × (b ≡ true)
both true b e = (refl, e)
both false b e = absurd (cc)

-- Some other hart has the site in its field.
pub held : (n w h x : ℕ) → others_at n w h x ≡ true → (g : ℕ) × (g < n) × (g ≢ h) × (owner_field w g ≡ x)
held zero w h x e = absurd (cc)
held (suc n) w h x e = ⊎_elim
    (λ here. let b = both (not (eqb n h)) (eqb (owner_field w n) x) here in
    (n, omega arith, (λ z. let same : eqb n h ≡ true = eq-eqb n h z in let other : not (eqb n h) ≡ false = ap not same in let no = b.0 in cc), eqb-true (owner_field w n) x b.1))
    (λ below. let r = held n w h x below in (r.0, (let lt = r.1 in omega arith), r.2, r.3))
    (either (not (eqb n h) && eqb (owner_field w n) x) (others_at n w h x) e)

stays_true : (b : Bool) → (b ≡ false → ⊥) → b ≡ true
stays_true true n = refl
stays_true false n = absurd (n refl)

stays_false : (b : Bool) → (b ≡ true → ⊥) → b ≡ false
stays_false true n = absurd (n refl)
stays_false false n = refl

-- The test passes iff some other hart has the site in its field.
pub held_by : (n w h x g : ℕ) → IsOther n h g × (owner_field w g ≡ x) → others_at n w h x ≡ true
held_by n w h x g at = stays_true (others_at n w h x) (λ none. none_at n w h x none g at.0.0 at.0.1 at.1)

pub held_by_none : (n w h x : ℕ) → ((g : ℕ) → IsOther n h g → owner_field w g ≢ x) → others_at n w h x ≡ false
held_by_none n w h x none = stays_false (others_at n w h x) (λ some. let r = held n w h x some in none r.0 (r.1, r.2) r.3)

pub sees : (lay : Layout) (name : List ℕ) (v w : View) (r : Seen) → Sees lay v r w → PortSees (shared_view name v) r (shared_view name w)
sees Owners name v w Empty s = ap (shared_view name) s.4
sees Owners name v w (Flying shown) s = (ap (shared_view name) s.1, s.0)
sees Owners name v w (Held shown) s = (ap (shared_view name) s.1.2, held v.plan.harts shown v.hart v.owner s.0)
sees Guests name v w Empty s = ap (shared_view name) s.2
sees Guests name v w (Flying shown) s = (ap (shared_view name) s.1, s.0)
sees Guests name v w (Held shown) s = absurd s
