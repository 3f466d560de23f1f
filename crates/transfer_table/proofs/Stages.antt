-- New rows are blank, homes stay, and the children of a gone site are gone.
use Rattle.std.proofs.Common.{◌≡◌, ◌≢◌, ℕ, ◌-◌, ◌<◌, ◌≤◌, Bool, true, false, ◌⊎◌, inl, inr, ⊎_elim, List, refl, sym, ap, subst, ◌∙◌, arith, Some, None}
use Rattle.transfer_table.specs.Plan.{Plan, IsPlan, IsHart, IsSite, parent, is_within, site_count}
use Rattle.transfer_table.specs.Table.{TableState, effect_of, first_state, owner, row, blank}
use Rattle.transfer_table.specs.Journal.{Reaches}
use Rattle.transfer_table.specs.Entry.{site_of, is_skip, covers}
use Rattle.transfer_table.specs.Allowed.{IsAllowed}
use Rattle.transfer_table.specs.declared.entry.Row.{Row}
use Rattle.transfer_table.specs.declared.entry.Stage.TheVariants.{New, Live, Gone}
use Rattle.transfer_table.specs.declared.entry.Entry.{Entry}
use Rattle.transfer_table.specs.declared.entry.Entry.TheVariants.{Register, Request, Enter, Yield, Unregister, Skip}
use Rattle.transfer_table.proofs.Positions.{Fits, lasts}
use Rattle.transfer_table.proofs.Lists.{replicate_at}
use Rattle.transfer_table.proofs.Effects.{at_site, row_after, row-effect_other, row-effect_covered, allowed_site}
use Rattle.transfer_table.proofs.Within.{within_all, within-itself, within-step, within-high, strictly_within, within_site}
use Rattle.transfer_table.proofs.Bounds.{legal_owner}

pub first_blank : (p : Plan) (s : ℕ) → row (first_state p) s ≡ blank
first_blank p s = replicate_at (site_count p) (s - 1) blank

abbrev IsBlankIfNew : ℕ → Row → Type 0
IsBlankIfNew y r = r.stage ≡ New → r ≡ blank

blank_home : (r : Row) (h : ℕ) → (r.stage ≡ New → r ≡ blank) → r.home ≡ Some h → r.stage ≡ New → ⊥
blank_home r h f home new = let e : r.home ≡ None = ap (λ (x : Row). x.home) (f new) in absurd (cc)

blank_after : (p : Plan) (t : TableState) (e : Entry) → IsAllowed p t e → IsBlankIfNew (site_of e) (row t (site_of e)) → IsBlankIfNew (site_of e) (row_after t e)
blank_after p t (Register h s) a f = λ z. absurd (cc)
blank_after p t (Request h s k) a f = λ z. absurd (blank_home (row t s) h f a.3 z)
blank_after p t (Enter h s) a f = λ z. let live = a.3 in absurd (cc)
blank_after p t (Yield h s) a f = f
blank_after p t (Unregister h s) a f = λ z. absurd (cc)
blank_after p t (Skip h s) a f = λ z. absurd (cc)

-- The row of a new site is blank.
pub legal_blank : (p : Plan) → IsPlan p → (es : List Entry) (t : TableState) → Reaches p es t → (s : ℕ) → IsSite p s → (row t s).stage ≡ New → row t s ≡ blank
legal_blank p plan es t is = lasts p plan (λ _ u. (s : ℕ) → IsSite p s → IsBlankIfNew s (row u s)) (λ s _ _. first_blank p s)
    (λ xs u e leads fits f a s site. at_site p u e s IsBlankIfNew fits a site (blank_after p u e a (f (site_of e) (allowed_site p u e a))) (λ _ _. f s site) (λ _ _ z. absurd (cc))) es t is

-- A site that has a hart inside is live.
pub live_home : (p : Plan) → IsPlan p → (es : List Entry) (t : TableState) → Reaches p es t → (h s : ℕ) → IsHart p h → 1 ≤ s → owner t h ≡ s → (row t s).stage ≡ Live
live_home p plan es t leads h s hart low own = ⊎_elim (λ z. absurd (omega arith)) (λ r. let Q : ℕ → Type 0 = λ x. (row t x).stage ≡ Live in subst Q own r.1) (legal_owner p plan es t leads h hart)

-- No hart is in a new site.
not_around : (p : Plan) (t : TableState) (h s : ℕ) → 1 ≤ s → (1 ≤ owner t h → (row t (owner t h)).stage ≡ Live) → owner t h ≡ s → (row t s).stage ≡ New → ⊥
not_around p t h s low live own new = let Q : ℕ → Type 0 = λ y. (row t y).stage ≡ Live in let l = subst Q own (live (omega arith)) in cc

owner_live : (p : Plan) → IsPlan p → (es : List Entry) (t : TableState) → Reaches p es t → (h : ℕ) → IsHart p h → 1 ≤ owner t h → (row t (owner t h)).stage ≡ Live
owner_live p plan es t leads h hart low = ⊎_elim (λ z. absurd (omega arith)) (λ r. r.1) (legal_owner p plan es t leads h hart)

-- The parent of a site that is skipped with a site around it isn't new.
swept_parent : (p : Plan) → IsPlan p → (t : TableState) (e : Entry) (c s : ℕ) → Fits p t → IsAllowed p t e → IsSite p c → parent p c ≡ s → IsSite p s → covers p e c ≡ true → c ≢ site_of e → (row (effect_of p t e) s).stage ≡ New → ⊥
swept_parent p plan t (Register h x) c s fits a child up site cov n new = cc
swept_parent p plan t (Request h x k) c s fits a child up site cov n new = cc
swept_parent p plan t (Enter h x) c s fits a child up site cov n new = cc
swept_parent p plan t (Yield h x) c s fits a child up site cov n new = cc
swept_parent p plan t (Unregister h x) c s fits a child up site cov n new = cc
swept_parent p plan t (Skip h x) c s fits a child up site cov n new =
    let above : x < c = strictly_within p x c cov n in
    let w : is_within p x s ≡ true = ap (is_within p x) (sym up) ∙ (sym (within-step p plan x c above child.1) ∙ cov) in
    let g : (row (effect_of p t (Skip h x)) s).stage ≡ Gone = ap (λ (r : Row). r.stage) (row-effect_covered p t (Skip h x) s fits site w) in cc

-- A site that is new was new before.
new_before : (p : Plan) (t : TableState) (e : Entry) (s : ℕ) → Fits p t → IsAllowed p t e → IsSite p s → (row (effect_of p t e) s).stage ≡ New → (row t s).stage ≡ New
new_before p t e s fits a site new = at_site p t e s (λ x r. r.stage ≡ New → (row t x).stage ≡ New) fits a site (here e) (λ _ _ z. z) (λ _ _ z. absurd (cc)) new
  where
    here : (e : Entry) → (row_after t e).stage ≡ New → (row t (site_of e)).stage ≡ New
    here (Register h x) z = absurd (cc)
    here (Request h x k) z = z
    here (Enter h x) z = z
    here (Yield h x) z = z
    here (Unregister h x) z = absurd (cc)
    here (Skip h x) z = absurd (cc)

-- An entry of a site whose parent is new leaves the parent new.
still_new : (p : Plan) (t : TableState) (e : Entry) (s : ℕ) → IsAllowed p t e → (1 ≤ s) → ((h : ℕ) → IsHart p h → 1 ≤ owner t h → (row t (owner t h)).stage ≡ Live) → parent p (site_of e) ≡ s → (row t s).stage ≡ New → (row t (site_of e)).stage ≡ New → (row_after t e).stage ≡ New
still_new p t (Register h x) s a low live up new z = absurd (not_around p t h s low (live h a.0) (a.2 ∙ up) new)
still_new p t (Request h x k) s a low live up new z = z
still_new p t (Enter h x) s a low live up new z = z
still_new p t (Yield h x) s a low live up new z = z
still_new p t (Unregister h x) s a low live up new z = let l = live h a.0 (let e = a.2 in let f = a.1.0 in omega arith) in let Q : ℕ → Type 0 = λ y. (row t y).stage ≡ Live in let l' = subst Q a.2 l in absurd (cc)
still_new p t (Skip h x) s a low live up new z = absurd (not_around p t h s low (live h a.0) (a.2 ∙ up) new)

abbrev ChildrenAreNew : Plan → TableState → Type 0
ChildrenAreNew p t = (s c : ℕ) → IsSite p s → IsSite p c → parent p c ≡ s → (row t s).stage ≡ New → (row t c).stage ≡ New

-- Each child of a new site is new.
pub legal_new_children : (p : Plan) → IsPlan p → (es : List Entry) (t : TableState) → Reaches p es t → ChildrenAreNew p t
legal_new_children p plan es t is = lasts p plan (λ _ u. ChildrenAreNew p u) (λ s c _ _ _ _. ap (λ (r : Row). r.stage) (first_blank p c))
    (λ xs u e leads fits f a s c site child up new. let was = new_before p u e s fits a site new in
    at_site p u e c (λ x r. parent p x ≡ s → (row u x).stage ≡ New → r.stage ≡ New) fits a child
    (λ up' z. still_new p u e s a site.0 (λ h hart low. owner_live p plan xs u leads h hart low) up' was z)
    (λ _ _ _ z. z)
    (λ n cov up' z. absurd (swept_parent p plan u e c s fits a child up' site cov n new))
    up (f s c site child up was)) es t is

-- A site that a skip covers was new.
pub covered_new : (p : Plan) → IsPlan p → (es : List Entry) (t : TableState) (e : Entry) → Reaches p es t → IsAllowed p t e → (y : ℕ) → IsSite p y → covers p e y ≡ true → (row t y).stage ≡ New
covered_new p plan es t (Register h x) leads a y site cov = absurd (cc)
covered_new p plan es t (Request h x k) leads a y site cov = absurd (cc)
covered_new p plan es t (Enter h x) leads a y site cov = absurd (cc)
covered_new p plan es t (Yield h x) leads a y site cov = absurd (cc)
covered_new p plan es t (Unregister h x) leads a y site cov = absurd (cc)
covered_new p plan es t (Skip h x) leads a y site cov = within_all p plan x (λ o. (row t o).stage ≡ New) a.3
    (λ c child w new. legal_new_children p plan es t leads (parent p c) c (within_site p plan x c a.1 child w) child refl new) y y (omega arith) site.1 cov

-- A home stays.
home_after : (p : Plan) (t : TableState) (e : Entry) (g : ℕ) → IsAllowed p t e → IsBlankIfNew (site_of e) (row t (site_of e)) → (row t (site_of e)).home ≡ Some g → (row_after t e).home ≡ Some g
home_after p t (Register h s) g a f home = absurd (blank_home (row t s) g f home a.3)
home_after p t (Request h s k) g a f home = home
home_after p t (Enter h s) g a f home = home
home_after p t (Yield h s) g a f home = home
home_after p t (Unregister h s) g a f home = home
home_after p t (Skip h s) g a f home = absurd (blank_home (row t s) g f home a.3)

pub home_lasts : (p : Plan) → IsPlan p → (es : List Entry) (t : TableState) (e : Entry) → Reaches p es t → Fits p t → IsAllowed p t e → (s g : ℕ) → IsSite p s → (row t s).home ≡ Some g → (row (effect_of p t e) s).home ≡ Some g
home_lasts p plan es t e leads fits a s g site home = at_site p t e s (λ x r. (row t x).home ≡ Some g → r.home ≡ Some g) fits a site
    (home_after p t e g a (legal_blank p plan es t leads (site_of e) (allowed_site p t e a)))
    (λ _ _ h. h)
    (λ _ c h. absurd (blank_home (row t s) g (legal_blank p plan es t leads s site) h (covered_new p plan es t e leads a s site c))) home

abbrev ChildrenAreGone : Plan → TableState → Type 0
ChildrenAreGone p t = (s c : ℕ) → IsSite p s → IsSite p c → parent p c ≡ s → (row t s).stage ≡ Gone → (row t c).stage ≡ Gone

not_gone_after : (p : Plan) (t : TableState) (e : Entry) → IsAllowed p t e → is_skip e ≡ false → (row_after t e).stage ≡ Gone → ((row t (site_of e)).stage ≡ Gone) ⊎ ((c : ℕ) → IsSite p c → parent p c ≡ site_of e → (row t c).stage ≡ Gone)
not_gone_after p t (Register h s) a k z = absurd (cc)
not_gone_after p t (Request h s n) a k z = inl z
not_gone_after p t (Enter h s) a k z = inl z
not_gone_after p t (Yield h s) a k z = inl z
not_gone_after p t (Unregister h s) a k z = inr a.5
not_gone_after p t (Skip h s) a k z = absurd (cc)

gone_after : (p : Plan) (t : TableState) (e : Entry) → IsAllowed p t e → (row t (site_of e)).stage ≡ Gone → (row_after t e).stage ≡ Gone
gone_after p t (Register h s) a z = let new = a.3 in absurd (cc)
gone_after p t (Request h s k) a z = z
gone_after p t (Enter h s) a z = z
gone_after p t (Yield h s) a z = z
gone_after p t (Unregister h s) a z = refl
gone_after p t (Skip h s) a z = refl

-- A gone site stays gone.
pub gone_lasts : (p : Plan) (t : TableState) (e : Entry) → Fits p t → IsAllowed p t e → (s : ℕ) → IsSite p s → (row t s).stage ≡ Gone → (row (effect_of p t e) s).stage ≡ Gone
gone_lasts p t e fits a s site z = at_site p t e s (λ x r. (row t x).stage ≡ Gone → r.stage ≡ Gone) fits a site (gone_after p t e a) (λ _ _ y. y) (λ _ _ _. refl) z

-- An entry that skips nothing leaves the children of gone sites gone.
gone_plain : (p : Plan) (t : TableState) (e : Entry) → Fits p t → IsAllowed p t e → is_skip e ≡ false → ((y : ℕ) → covers p e y ≡ false) → ChildrenAreGone p t → ChildrenAreGone p (effect_of p t e)
gone_plain p t e fits a plain none f s c site child up gone = gone_lasts p t e fits a c child
    (at_site p t e s (λ x r. x ≡ s → r.stage ≡ Gone → (row t c).stage ≡ Gone) fits a site
    (λ z g. ⊎_elim (λ was. f s c site child up (let Q : ℕ → Type 0 = λ x. (row t x).stage ≡ Gone in subst Q z was)) (λ all. all c child (up ∙ sym z)) (not_gone_after p t e a plain g))
    (λ _ _ _ g. f s c site child up g)
    (λ _ cov _ _. absurd (let w : true ≡ false = sym cov ∙ none s in cc)) refl gone)

-- A skip leaves the children of gone sites gone.
gone_skipped : (p : Plan) → IsPlan p → (t : TableState) (h x : ℕ) → Fits p t → IsAllowed p t (Skip h x) → ChildrenAreGone p t → ChildrenAreGone p (effect_of p t (Skip h x))
gone_skipped p plan t h x fits a f s c site child up gone = split (is_within p x s) refl
  where
    split : (b : Bool) → is_within p x s ≡ b → (row (effect_of p t (Skip h x)) c).stage ≡ Gone
    split true w = let below = plan.below c child.0 child.1 in let high = within-high p x s w in
        let w' : is_within p x c ≡ true = within-step p plan x c (omega arith) child.1 ∙ (ap (is_within p x) up ∙ w) in
        ap (λ (r : Row). r.stage) (row-effect_covered p t (Skip h x) c fits child w')
    split false w = gone_lasts p t (Skip h x) fits a c child (f s c site child up
        (ap (λ (r : Row). r.stage) (sym (row-effect_other p t (Skip h x) s fits a site (λ z. let i : is_within p x s ≡ true = ap (is_within p x) z ∙ within-itself p x in let k : true ≡ false = sym i ∙ w in cc) w)) ∙ gone))

gone_step : (p : Plan) → IsPlan p → (t : TableState) (e : Entry) → Fits p t → IsAllowed p t e → ChildrenAreGone p t → ChildrenAreGone p (effect_of p t e)
gone_step p plan t (Register h x) fits a f = gone_plain p t (Register h x) fits a refl (λ _. refl) f
gone_step p plan t (Request h x k) fits a f = gone_plain p t (Request h x k) fits a refl (λ _. refl) f
gone_step p plan t (Enter h x) fits a f = gone_plain p t (Enter h x) fits a refl (λ _. refl) f
gone_step p plan t (Yield h x) fits a f = gone_plain p t (Yield h x) fits a refl (λ _. refl) f
gone_step p plan t (Unregister h x) fits a f = gone_plain p t (Unregister h x) fits a refl (λ _. refl) f
gone_step p plan t (Skip h x) fits a f = gone_skipped p plan t h x fits a f

-- Each child of a gone site is gone.
pub legal_children : (p : Plan) → IsPlan p → (es : List Entry) (t : TableState) → Reaches p es t → ChildrenAreGone p t
legal_children p plan es t is = lasts p plan (λ _ u. ChildrenAreGone p u) (λ s c _ _ _ gone. absurd (let new : (row (first_state p) s).stage ≡ New = ap (λ (r : Row). r.stage) (first_blank p s) in cc))
    (λ xs u e leads fits f a. gone_step p plan u e fits a f) es t is
