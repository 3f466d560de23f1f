-- A site's row as its word shows it.
use Rattle.std.proofs.Common.{◌≡◌, ◌≢◌, ℕ, ◌+◌, ◌-◌, ◌≤◌, nat_le, Bool, true, false, if◌then◌else◌, List, [], ◌∷◌, ◌++◌, refl, sym, ap, ◌∙◌, subst, arith, ⊎_elim}
use mathlib.Core.Logic.{dite}
use native.Mathlib.Decide.{ℕ_discrete}
use Rattle.std.specs.Option.{is_some}
use Rattle.std.proofs.lemmas.Bool.Decides.{nat_tests}
use Rattle.transfer_table.specs.Plan.{Plan, IsPlan, IsHart, IsSite, parent, is_within}
use Rattle.transfer_table.specs.Table.{TableState, effect_of, owner, row, blank}
use Rattle.transfer_table.specs.Journal.{Reaches}
use Rattle.transfer_table.specs.Allowed.{IsAllowed}
use Rattle.transfer_table.specs.Entry.{site_of, covers, registers, skips}
use Rattle.transfer_table.specs.declared.entry.Row.{Row}
use Rattle.transfer_table.specs.declared.entry.Stage.{Stage}
use Rattle.transfer_table.specs.declared.entry.Stage.TheVariants.{New, Live, Gone}
use Rattle.transfer_table.specs.declared.entry.Entry.{Entry}
use Rattle.transfer_table.specs.declared.entry.Entry.TheVariants.{Register, Request, Enter, Yield, Unregister, Skip}
use Rattle.transfer_table.proofs.Positions.{legal_position}
use Rattle.transfer_table.proofs.Effects.{row_after, row-effect_same, row-effect_other}
use Rattle.transfer_table.proofs.Stages.{legal_blank, live_home, covered_new, gone_lasts}
use Rattle.transfer_table.proofs.Balance.{registers-other, registers-here, legal_wishes, rows_report}
use Rattle.transfer_table.proofs.Begins.{legal_begins, legal_askless, skips-other, skips-here}
use Rattle.transfer_table.proofs.Bounds.{legal_owner}
use Rattle.transfer_table.proofs.Within.{strictly_within, within-step, within_site}
use Rattle.board_rule.specs.Shown.{has_begun, shown}

by_begun : {A : Type 0} (es : List Entry) (x : ℕ) → (has_begun es x ≡ true → A) → (has_begun es x ≡ false → A) → A
by_begun {A = A} es x was never = split (has_begun es x) refl
  where
    split : (b : Bool) → has_begun es x ≡ b → A
    split true e = was e
    split false e = never e

begun_some : (n : ℕ) → 1 ≤ n → nat_le 1 n ≡ true
begun_some n le = grind (arith, nat_tests)

none_begun : (n : ℕ) → nat_le 1 n ≡ false → n ≡ 0
none_begun n e = grind (arith, nat_tests)

pub shown-begun : (es : List Entry) (t : TableState) (x : ℕ) → has_begun es x ≡ true → shown es t x ≡ row t x
shown-begun es t x b = rw b refl

pub shown-never : (es : List Entry) (t : TableState) (x : ℕ) → has_begun es x ≡ false → shown es t x ≡ blank
shown-never es t x b = rw b refl

module _ (p : Plan) (plan : IsPlan p) (es : List Entry) (t : TableState) (leads : Reaches p es t) where
  -- A live site has begun.
  live_begun : (x : ℕ) → IsSite p x → (row t x).stage ≡ Live → has_begun es x ≡ true
  live_begun x site live = begun_some (registers x es + skips x es) (let r = ((legal_begins p plan es t leads x site).live live).0 in omega arith)

  pub shown-live : (x : ℕ) → IsSite p x → (row t x).stage ≡ Live → shown es t x ≡ row t x
  shown-live x site live = shown-begun es t x (live_begun x site live)

  pub shown-new : (x : ℕ) → IsSite p x → (row t x).stage ≡ New → shown es t x ≡ row t x
  shown-new x site new = by_begun es x (shown-begun es t x) (λ b. shown-never es t x b ∙ sym (legal_blank p plan es t leads x site new))

  pub row-live : (x : ℕ) → (shown es t x).stage ≡ Live → (row t x).stage ≡ Live
  row-live x live = by_begun es x (λ b. ap (λ (r : Row). r.stage) (sym (shown-begun es t x b)) ∙ live) (λ b. absurd (let z : (shown es t x).stage ≡ New = ap (λ (r : Row). r.stage) (shown-never es t x b) in cc))

  pub row-gone : (x : ℕ) → (shown es t x).stage ≡ Gone → (row t x).stage ≡ Gone
  row-gone x gone = by_begun es x (λ b. ap (λ (r : Row). r.stage) (sym (shown-begun es t x b)) ∙ gone) (λ b. absurd (let z : (shown es t x).stage ≡ New = ap (λ (r : Row). r.stage) (shown-never es t x b) in cc))

  -- A child of a hart's owner that is shown as new is new.
  pub row-new : (h x : ℕ) → IsHart p h → IsSite p x → owner t h ≡ parent p x → (shown es t x).stage ≡ New → (row t x).stage ≡ New
  row-new h x hart site own new = by_begun es x (λ b. ap (λ (r : Row). r.stage) (sym (shown-begun es t x b)) ∙ new) (λ b. by_stage (row t x).stage refl (none_begun (registers x es + skips x es) b))
    where
      by_stage : (g : Stage) → (row t x).stage ≡ g → registers x es + skips x es ≡ 0 → (row t x).stage ≡ New
      by_stage New e none = e
      by_stage Live e none = absurd (let r = ((legal_begins p plan es t leads x site).live e).0 in omega arith)
      by_stage Gone e none = absurd (let up = (legal_begins p plan es t leads x site).left_out e none in
          ⊎_elim (λ base. let low = up.0.0 in let z : parent p x ≡ 0 = sym own ∙ base in absurd (omega arith)) (λ r. let Q : ℕ → Type 0 = λ o. (row t o).stage ≡ Live in let live = subst Q own r.1 in let gone = up.1 in cc) (legal_owner p plan es t leads h hart))

  -- A site that is shown without a home is shown without wishes.
  pub shown-askless : (x : ℕ) → IsSite p x → is_some (shown es t x).home ≡ false → (shown es t x).wishes ≡ 0
  shown-askless x site none = by_begun es x
      (λ b. let e = shown-begun es t x b in ap (λ (r : Row). r.wishes) e ∙ (legal_askless p plan es t leads x site (ap (λ (r : Row). is_some r.home) (sym e) ∙ none)).0)
      (λ b. ap (λ (r : Row). r.wishes) (shown-never es t x b))

  pub shown-homeless : (x : ℕ) → IsSite p x → (shown es t x).stage ≡ New → is_some (shown es t x).home ≡ false
  shown-homeless x site new = by_begun es x
      (λ b. let e = shown-begun es t x b in ap (λ (r : Row). is_some r.home) (e ∙ legal_blank p plan es t leads x site (ap (λ (r : Row). r.stage) (sym e) ∙ new)))
      (λ b. ap (λ (r : Row). is_some r.home) (shown-never es t x b))

  -- The wishes that are shown are those of the row.
  pub shown-wishes : (x : ℕ) → IsSite p x → (shown es t x).wishes ≡ (row t x).wishes
  shown-wishes x site = by_begun es x (λ b. ap (λ (r : Row). r.wishes) (shown-begun es t x b))
      (λ b. ap (λ (r : Row). r.wishes) (shown-never es t x b) ∙ sym (home_none (is_some (row t x).home) refl (none_begun (registers x es + skips x es) b)))
    where
      home_none : (h : Bool) → is_some (row t x).home ≡ h → registers x es + skips x es ≡ 0 → (row t x).wishes ≡ 0
      home_none false e none = (legal_askless p plan es t leads x site e).0
      home_none true e none = absurd (let one : registers x es ≡ 1 = (rows_report p plan es t leads x site).came ∙ ap (λ (b : Bool). if b then 1 else 0) e in omega arith)

  -- An entry of another site leaves what is shown, also if it skips a site around this one.
  pub shown-other : (e : Entry) → IsAllowed p t e → (y : ℕ) → IsSite p y → y ≢ site_of e → shown (es ++ e ∷ []) (effect_of p t e) y ≡ shown es t y
  shown-other e a y site n =
      let fits = legal_position p plan es t leads in
      let same : has_begun (es ++ e ∷ []) y ≡ has_begun es y = ap (nat_le 1) (let r = registers-other y es e n in let k = skips-other y es e n in let z : registers y (es ++ e ∷ []) + skips y (es ++ e ∷ []) ≡ registers y es + skips y es = omega arith in z) in
      by_cover (covers p e y) refl same
    where
      by_cover : (b : Bool) → covers p e y ≡ b → has_begun (es ++ e ∷ []) y ≡ has_begun es y → shown (es ++ e ∷ []) (effect_of p t e) y ≡ shown es t y
      by_cover false c same = let fits = legal_position p plan es t leads in λ i. if same i then row-effect_other p t e y fits a site n c i else blank
      by_cover true c same = let new = covered_new p plan es t e leads a y site c in
          let none : has_begun es y ≡ false = ap (nat_le 1) ((legal_begins p plan es t leads y site).fresh new).0 in
          shown-never (es ++ e ∷ []) (effect_of p t e) y (same ∙ none) ∙ sym (shown-never es t y none)

  of_live : (e : Entry) → IsSite p (site_of e) → (row t (site_of e)).stage ≡ Live → 1 ≤ registers (site_of e) (es ++ e ∷ []) + skips (site_of e) (es ++ e ∷ [])
  of_live e site live = let r = registers-here es e in let l = ((legal_begins p plan es t leads (site_of e) site).live live).0 in omega arith

  -- An allowed entry begins its site, or the site has begun.
  begins : (e : Entry) → IsAllowed p t e → 1 ≤ registers (site_of e) (es ++ e ∷ []) + skips (site_of e) (es ++ e ∷ [])
  begins (Register h x) a = let r = registers-here es (Register h x) in omega arith
  begins (Request h x k) a = of_live (Request h x k) a.1 (live_home p plan es t leads h x a.0 a.1.0 a.2)
  begins (Enter h x) a = of_live (Enter h x) a.1 a.3
  begins (Yield h x) a = of_live (Yield h x) a.1 (live_home p plan es t leads h x a.0 a.1.0 a.2)
  begins (Unregister h x) a = of_live (Unregister h x) a.1 (live_home p plan es t leads h x a.0 a.1.0 a.2)
  begins (Skip h x) a = let r = skips-here es (Skip h x) in omega arith

  -- After an allowed entry its site's new row is shown.
  pub shown-after : (e : Entry) → IsAllowed p t e → shown (es ++ e ∷ []) (effect_of p t e) (site_of e) ≡ row_after t e
  shown-after e a = let fits = legal_position p plan es t leads in
      shown-begun (es ++ e ∷ []) (effect_of p t e) (site_of e) (begun_some (registers (site_of e) (es ++ e ∷ []) + skips (site_of e) (es ++ e ∷ [])) (begins e a)) ∙ row-effect_same p t e fits a

  -- A site that is shown as gone stays so.
  pub shown-lasts : (e : Entry) → IsAllowed p t e → (y : ℕ) → IsSite p y → (shown es t y).stage ≡ Gone → (shown (es ++ e ∷ []) (effect_of p t e) y).stage ≡ Gone
  shown-lasts e a y site gone = dite (ℕ_discrete y (site_of e))
      (λ z. let fits = legal_position p plan es t leads in let Q : ℕ → Type 0 = λ q. (shown (es ++ e ∷ []) (effect_of p t e) q).stage ≡ Gone in
      subst Q (sym z) (ap (λ (r : Row). r.stage) (shown-after e a ∙ sym (row-effect_same p t e fits a)) ∙ gone_lasts p t e fits a (site_of e) (subst (IsSite p) z site) (let R : ℕ → Type 0 = λ q. (row t q).stage ≡ Gone in subst R z (row-gone y gone))))
      (λ n. ap (λ (r : Row). r.stage) (shown-other e a y site n) ∙ gone)

  -- No skip of a site around it covers a child of a hart's owner.
  pub uncovered : (e : Entry) → IsAllowed p t e → (h y : ℕ) → IsHart p h → IsSite p y → owner t h ≡ parent p y → y ≢ site_of e → covers p e y ≡ false
  uncovered (Register g x) a h y hart site own n = refl
  uncovered (Request g x k) a h y hart site own n = refl
  uncovered (Enter g x) a h y hart site own n = refl
  uncovered (Yield g x) a h y hart site own n = refl
  uncovered (Unregister g x) a h y hart site own n = refl
  uncovered (Skip g x) a h y hart site own n = by_cover (is_within p x y) refl
    where
      by_cover : (b : Bool) → is_within p x y ≡ b → is_within p x y ≡ false
      by_cover false c = c
      by_cover true c = absurd (
          let above = strictly_within p x y c n in
          let w : is_within p x (parent p y) ≡ true = sym (within-step p plan x y above site.1) ∙ c in
          let up = within_site p plan x y a.1 site w in
          let new : (row t (parent p y)).stage ≡ New = covered_new p plan es t (Skip g x) leads a (parent p y) up w in
          let live = live_home p plan es t leads h (parent p y) hart up.0 own in cc)

  pub few_shown : (x : ℕ) → IsSite p x → (shown es t x).wishes ≤ p.harts - 1
  few_shown x site = let w = shown-wishes x site in let l = legal_wishes p plan es t leads x site in omega (arith, l.0, l.1)
