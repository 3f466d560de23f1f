-- The home of a live site stays inside it.
use Rattle.std.proofs.Common.{◌≡◌, ◌≢◌, ℕ, List, refl, sym, ap, subst, ◌∙◌, Some}
use Rattle.transfer_table.specs.Plan.{Plan, IsPlan, IsHart, IsSite, parent, IsWithin}
use Rattle.transfer_table.specs.Table.{TableState, effect_of, first_state, owner, row}
use Rattle.transfer_table.specs.Journal.{Reaches}
use Rattle.transfer_table.specs.Entry.{hart_of, site_of}
use Rattle.transfer_table.specs.Allowed.{IsAllowed}
use Rattle.transfer_table.specs.Plan.IsWithin.{itself, child}
use Rattle.transfer_table.specs.declared.entry.Row.{Row}
use Rattle.transfer_table.specs.declared.entry.Stage.TheVariants.{New, Live}
use Rattle.transfer_table.specs.declared.entry.Entry.{Entry}
use Rattle.transfer_table.specs.declared.entry.Entry.TheVariants.{Register, Request, Enter, Yield, Unregister, Skip}
use Rattle.transfer_table.proofs.Positions.{Fits, lasts}
use Rattle.transfer_table.proofs.Effects.{at_site, at_hart, row_after, owner_after, allowed_site}
use Rattle.transfer_table.proofs.Stages.{first_blank}

-- The parent of a site strictly within s is within s.
way_up : (p : Plan) (s o : ℕ) → IsWithin p s o → o ≢ s → IsWithin p s (parent p o)
way_up p s o itself n = absurd (n refl)
way_up p s o (child c site w) n = w

-- The site has a home inside.
abbrev pub HasHome : Plan → TableState → ℕ → Type 0
HasHome p t s = (row t s).stage ≡ Live → (h : ℕ) × ((row t s).home ≡ Some h) × IsHart p h × IsWithin p s (owner t h)

-- The home of a live site is inside it after its own entry, if it was inside before.
moves : (p : Plan) (t : TableState) (e : Entry) (s : ℕ) → IsAllowed p t e → IsSite p s → (row t s).home ≡ Some (hart_of e) → (s ≡ site_of e → (row_after t e).stage ≡ Live) → IsWithin p s (owner t (hart_of e)) → IsWithin p s (owner_after p e)
moves p t (Register h x) s a site home live w = child x a.1 (subst (IsWithin p s) a.2 w)
moves p t (Request h x k) s a site home live w = subst (IsWithin p s) a.2 w
moves p t (Enter h x) s a site home live w = child x a.1 (subst (IsWithin p s) a.2 w)
moves p t (Yield h x) s a site home live w = way_up p s x (subst (IsWithin p s) a.2 w) (λ z. let Q : ℕ → Type 0 = λ y. (row t y).home ≡ Some h in a.3 (subst Q (sym z) home))
moves p t (Unregister h x) s a site home live w = way_up p s x (subst (IsWithin p s) a.2 w) (λ z. let g = live (sym z) in absurd (cc))
moves p t (Skip h x) s a site home live w = subst (IsWithin p s) a.2 w

still : (p : Plan) (t : TableState) (e : Entry) (s : ℕ) → Fits p t → IsAllowed p t e → IsSite p s → (s ≡ site_of e → (row_after t e).stage ≡ Live)
    → ((h : ℕ) × ((row t s).home ≡ Some h) × IsHart p h × IsWithin p s (owner t h)) → (h : ℕ) × ((row t s).home ≡ Some h) × IsHart p h × IsWithin p s (owner (effect_of p t e) h)
still p t e s fits a site live was = (
  was.0,
  was.1,
  was.2,
  at_hart p t e was.0 (λ g o. g ≡ was.0 → IsWithin p s o) fits a
      (λ z. moves p t e s a site (was.1 ∙ ap (λ (x : ℕ). Some x) (sym z)) live (let Q : ℕ → Type 0 = λ y. IsWithin p s (owner t y) in subst Q (sym z) was.3)) (λ _ _. was.3) refl,
)

here : (p : Plan) (t : TableState) (e : Entry) → Fits p t → IsAllowed p t e → HasHome p t (site_of e) → (row_after t e).stage ≡ Live → (h : ℕ) × ((row_after t e).home ≡ Some h) × IsHart p h × IsWithin p (site_of e) (owner (effect_of p t e) h)
here p t (Register h s) fits a f live = (h, refl, a.0, at_hart p t (Register h s) h (λ g o. IsWithin p s o) fits a itself (λ n. absurd (n refl)))
here p t (Request h s k) fits a f live = still p t (Request h s k) s fits a a.1 (λ _. live) (f live)
here p t (Enter h s) fits a f live = still p t (Enter h s) s fits a a.1 (λ _. live) (f live)
here p t (Yield h s) fits a f live = still p t (Yield h s) s fits a a.1 (λ _. live) (f live)
here p t (Unregister h s) fits a f live = absurd (cc)
here p t (Skip h s) fits a f live = absurd (cc)

-- The home of a live site is inside it.
pub legal_home : (p : Plan) → IsPlan p → (es : List Entry) (t : TableState) → Reaches p es t → (s : ℕ) → IsSite p s → HasHome p t s
legal_home p plan es t is = lasts p plan (λ _ u. (s : ℕ) → IsSite p s → HasHome p u s) (λ s _ live. absurd (let new : (row (first_state p) s).stage ≡ New = ap (λ (r : Row). r.stage) (first_blank p s) in cc))
    (λ xs u e leads fits f a s site. at_site p u e s (λ x r. r.stage ≡ Live → (h : ℕ) × (r.home ≡ Some h) × IsHart p h × IsWithin p x (owner (effect_of p u e) h)) fits a site
    (here p u e fits a (f (site_of e) (allowed_site p u e a)))
    (λ n _ live. still p u e s fits a site (λ z. absurd (n z)) (f s site live))
    (λ _ _ live. absurd (cc))) es t is
