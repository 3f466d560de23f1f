-- How entries change the number of guests.
use Rattle.std.proofs.Common.{◌≡◌, ◌≢◌, ℕ, ◌+◌, ◌-◌, ◌≤◌, Bool, true, false, ◌&&◌, not, eq-eqb, ne_eqb, List, refl, sym, ap, ◌∙◌, subst, arith, Option, Some, None}
use mathlib.Core.Logic.{dite}
use native.Mathlib.Decide.{ℕ_discrete}
use Rattle.std.proofs.Math.Bool.{and-false}
use Rattle.transfer_table.specs.Plan.{Plan, IsPlan, IsHart, IsSite, IsWithin, is_within}
use Rattle.transfer_table.specs.Table.{TableState, effect_of, owner, row, is_home}
use Rattle.transfer_table.specs.Journal.{Reaches}
use Rattle.transfer_table.specs.Allowed.{IsAllowed}
use Rattle.transfer_table.specs.Entry.{hart_of, site_of}
use Rattle.transfer_table.specs.declared.entry.Row.{Row}
use Rattle.transfer_table.specs.declared.entry.Stage.{Stage}
use Rattle.transfer_table.specs.declared.entry.Stage.TheVariants.{New, Live, Gone}
use Rattle.transfer_table.specs.declared.entry.Entry.{Entry}
use Rattle.transfer_table.specs.declared.entry.Entry.TheVariants.{Register, Request, Enter, Yield, Unregister, Skip}
use Rattle.transfer_table.proofs.Positions.{Fits, legal_position}
use Rattle.transfer_table.proofs.Effects.{owner_after, row_after, allowed_hart, owner-effect_same, owner-effect_other, row-effect_same, at_site}
use Rattle.transfer_table.proofs.Bounds.{legal_owner}
use Rattle.transfer_table.proofs.Homes.{legal_home}
use Rattle.transfer_table.proofs.Stages.{legal_blank, covered_new}
use Rattle.transfer_table.proofs.Within.{within-itself}
use Rattle.transfer_table.specs.Counts.{one_if}
use Rattle.transfer_table.specs.Guests.{guest_at, guests_in, comes_in, goes_out, HasGuests, GuestsChange}
use Rattle.transfer_table.proofs.Ways.{seen_here, parent_outside, live_above, found_within}
use Rattle.transfer_table.proofs.GuestCounts.{same_sum, one_changes, none_of, all_none, one_out}

-- A hart outside isn't a guest, and neither is the home.
pub outsider : (p : Plan) (t : TableState) (y h : ℕ) → is_within p y (owner t h) ≡ false → guest_at p t y h ≡ 0
outsider p t y h e = ap (λ (b : Bool). one_if (not (is_home (row t y).home h) && b)) e ∙ ap one_if (and-false (not (is_home (row t y).home h)))

pub at_home : (p : Plan) (t : TableState) (y h : ℕ) → (row t y).home ≡ Some h → guest_at p t y h ≡ 0
at_home p t y h e = ap (λ (b : Bool). one_if (not b && is_within p y (owner t h))) (ap (λ (o : Option ℕ). is_home o h) e ∙ eq-eqb h h refl)

is_guest : (p : Plan) (t : TableState) (y h : ℕ) → is_home (row t y).home h ≡ false → is_within p y (owner t h) ≡ true → guest_at p t y h ≡ 1
is_guest p t y h other inside = ap (λ (b : Bool). one_if (not b && is_within p y (owner t h))) other ∙ ap one_if inside

pub homeless : (o : Option ℕ) (h : ℕ) → o ≢ Some h → is_home o h ≡ false
homeless None h n = refl
homeless (Some g) h n = ne_eqb g h (λ z. n (ap (λ (x : ℕ). Some x) z))

module _ (p : Plan) (plan : IsPlan p) (es : List Entry) (t : TableState) (leads : Reaches p es t) where
  -- No hart is a guest of a site that isn't live.
  no_guest : (y h : ℕ) → IsSite p y → (row t y).stage ≢ Live → IsHart p h → guest_at p t y h ≡ 0
  no_guest y h site idle hart = by_case (is_within p y (owner t h)) refl
    where
      by_case : (b : Bool) → is_within p y (owner t h) ≡ b → guest_at p t y h ≡ 0
      by_case false e = outsider p t y h e
      by_case true e = absurd (idle (live_above p plan es t leads y (owner t h) site e (legal_owner p plan es t leads h hart)))

  pub has_guests : HasGuests p t
  has_guests = record {
    idle = λ y site idle. all_none p t y p.harts (λ h hart. no_guest y h site idle hart);
    alone = λ y h site home none g hart other own.
        let no = none_of p t y g p.harts hart none in
        let not_home : is_home (row t y).home g ≡ false = homeless (row t y).home g (λ e. let both : Some g ≡ Some h = sym e ∙ home in other (one_some g h both)) in
        let yes = is_guest p t y g not_home (ap (is_within p y) own ∙ within-itself p y) in absurd (omega arith);
    few = λ y site. by_stage y site (row t y).stage refl;
  }
    where
      one_some : (g h : ℕ) → Some g ≡ Some h → g ≡ h
      one_some g h e = cc

      by_stage : (y : ℕ) → IsSite p y → (g : Stage) → (row t y).stage ≡ g → guests_in p t y ≤ p.harts - 1
      by_stage y site New e = let none = all_none p t y p.harts (λ h hart. no_guest y h site (λ z. let bad = sym z ∙ e in cc) hart) in omega arith
      by_stage y site Live e = let home = legal_home p plan es t leads y site e in one_out p t y home.0 p.harts home.2 (at_home p t y home.0 home.1)
      by_stage y site Gone e = let none = all_none p t y p.harts (λ h hart. no_guest y h site (λ z. let bad = sym z ∙ e in cc) hart) in omega arith

  -- For another site, the entry's hart stays inside or outside.
  moved : (e : Entry) → IsAllowed p t e → (y : ℕ) → IsSite p y → y ≢ site_of e → is_within p y (owner_after p e) ≡ is_within p y (owner t (hart_of e))
  moved (Register h s) a y site n = seen_here p plan y s a.1 n ∙ ap (is_within p y) (sym a.2)
  moved (Request h s k) a y site n = ap (is_within p y) (sym a.2)
  moved (Enter h s) a y site n = seen_here p plan y s a.1 n ∙ ap (is_within p y) (sym a.2)
  moved (Yield h s) a y site n = sym (seen_here p plan y s a.1 n) ∙ ap (is_within p y) (sym a.2)
  moved (Unregister h s) a y site n = sym (seen_here p plan y s a.1 n) ∙ ap (is_within p y) (sym a.2)
  moved (Skip h s) a y site n = ap (is_within p y) (sym a.2)

  fits : Fits p t
  fits = legal_position p plan es t leads

  -- An entry leaves the home of another site.
  homes_stay : (e : Entry) → IsAllowed p t e → (y : ℕ) → IsSite p y → y ≢ site_of e → (row (effect_of p t e) y).home ≡ (row t y).home
  homes_stay e a y site n = at_site p t e y (λ x r. x ≡ y → r.home ≡ (row t y).home) fits a site
      (λ z. absurd (n (sym z)))
      (λ _ _ _. refl)
      (λ _ c _. sym (ap (λ (r : Row). r.home) (legal_blank p plan es t leads y site (covered_new p plan es t e leads a y site c)))) refl

  elsewhere : (e : Entry) → IsAllowed p t e → (y : ℕ) → IsSite p y → y ≢ site_of e → guests_in p (effect_of p t e) y ≡ guests_in p t y
  elsewhere e a y site n = same_sum p t (effect_of p t e) y p.harts (λ h hart.
      let homes = homes_stay e a y site n in
      let inside : is_within p y (owner (effect_of p t e) h) ≡ is_within p y (owner t h) = dite (ℕ_discrete h (hart_of e))
      (λ z. subst (λ (q : ℕ). is_within p y (owner (effect_of p t e) q) ≡ is_within p y (owner t q)) (sym z) (ap (is_within p y) (owner-effect_same p t e fits a) ∙ moved e a y site n))
      (λ other. ap (is_within p y) (owner-effect_other p t e h other)) in
      ap (λ (o : Option ℕ). one_if (not (is_home o h) && is_within p y (owner (effect_of p t e) h))) homes
      ∙ ap (λ (b : Bool). one_if (not (is_home (row t y).home h) && b)) inside)

  -- If the home of the site stays, only the entry's hart changes the number of its guests.
  change : (e : Entry) → IsAllowed p t e → (row_after t e).home ≡ (row t (site_of e)).home
      → guests_in p (effect_of p t e) (site_of e) + guest_at p t (site_of e) (hart_of e) ≡ guests_in p t (site_of e) + guest_at p (effect_of p t e) (site_of e) (hart_of e)
  change e a home = one_changes p t (effect_of p t e) (site_of e) (hart_of e) p.harts (allowed_hart p t e a) (λ h other.
      let homes : (row (effect_of p t e) (site_of e)).home ≡ (row t (site_of e)).home = ap (λ (r : Row). r.home) (row-effect_same p t e fits a) ∙ home in
      ap (λ (o : Option ℕ). one_if (not (is_home o h) && is_within p (site_of e) (owner (effect_of p t e) h))) homes
      ∙ ap (λ (q : ℕ). one_if (not (is_home (row t (site_of e)).home h) && is_within p (site_of e) q)) (owner-effect_other p t e h other))

  here : (e : Entry) → IsAllowed p t e → guests_in p (effect_of p t e) (site_of e) + goes_out e ≡ guests_in p t (site_of e) + comes_in e
  here (Register h s) a =
      let e : Entry = Register h s in
      let idle : (row t s).stage ≢ Live = λ z. let new = a.3 in let bad = sym z ∙ new in cc in
      let before : guests_in p t s ≡ 0 = all_none p t s p.harts (λ g hart. no_guest s g a.1 idle hart) in
      let after : guests_in p (effect_of p t e) s ≡ 0 = all_none p (effect_of p t e) s p.harts (λ g hart. dite (ℕ_discrete g h)
      (λ z. at_home p (effect_of p t e) s g (ap (λ (r : Row). r.home) (row-effect_same p t e fits a) ∙ ap (λ (x : ℕ). Some x) (sym z)))
      (λ other. outsider p (effect_of p t e) s g (ap (is_within p s) (owner-effect_other p t e g other) ∙ not_in s g a.1 idle hart))) in omega arith
    where
      not_in : (s g : ℕ) → IsSite p s → (row t s).stage ≢ Live → IsHart p g → is_within p s (owner t g) ≡ false
      not_in s g site idle hart = by_case (is_within p s (owner t g)) refl
        where
          by_case : (b : Bool) → is_within p s (owner t g) ≡ b → b ≡ false
          by_case false e = refl
          by_case true e = absurd (idle (live_above p plan es t leads s (owner t g) site e (legal_owner p plan es t leads g hart)))
  here (Request h s k) a =
      let e : Entry = Request h s k in
      let c = change e a refl in
      let was = at_home p t s h a.3 in
      let now = at_home p (effect_of p t e) s h (ap (λ (r : Row). r.home) (row-effect_same p t e fits a) ∙ a.3) in omega arith
  here (Enter h s) a =
      let e : Entry = Enter h s in
      let c = change e a refl in
      let away : is_within p s (owner t h) ≡ false = ap (is_within p s) a.2 ∙ parent_outside p plan s a.1 in
      let was = outsider p t s h away in
      let home = legal_home p plan es t leads s a.1 a.3 in
      let not_home : (row t s).home ≢ Some h = λ z. let same : Some home.0 ≡ Some h = sym home.1 ∙ z in
      let one : home.0 ≡ h = one_some home.0 h same in
      let inside = found_within p plan s (owner t h) a.1 (subst (λ (q : ℕ). IsWithin p s (owner t q)) one home.3) in cc in
      let now = is_guest p (effect_of p t e) s h (homeless (row (effect_of p t e) s).home h (λ z. not_home (sym (ap (λ (r : Row). r.home) (row-effect_same p t e fits a)) ∙ z)))
      (ap (is_within p s) (owner-effect_same p t e fits a) ∙ within-itself p s) in omega arith
    where
      one_some : (g h : ℕ) → Some g ≡ Some h → g ≡ h
      one_some g h e = cc
  here (Yield h s) a =
      let e : Entry = Yield h s in
      let c = change e a refl in
      let was = is_guest p t s h (homeless (row t s).home h a.3) (ap (is_within p s) a.2 ∙ within-itself p s) in
      let now = outsider p (effect_of p t e) s h (ap (is_within p s) (owner-effect_same p t e fits a) ∙ parent_outside p plan s a.1) in omega arith
  here (Unregister h s) a =
      let e : Entry = Unregister h s in
      let c = change e a refl in
      let was = at_home p t s h a.3 in
      let now = at_home p (effect_of p t e) s h (ap (λ (r : Row). r.home) (row-effect_same p t e fits a) ∙ a.3) in omega arith
  here (Skip h s) a =
      let e : Entry = Skip h s in
      let blank = legal_blank p plan es t leads s a.1 a.3 in
      let c = change e a (sym (ap (λ (r : Row). r.home) blank)) in
      let away : is_within p s (owner t h) ≡ false = ap (is_within p s) a.2 ∙ parent_outside p plan s a.1 in
      let was = outsider p t s h away in
      let now = outsider p (effect_of p t e) s h away in omega arith

pub guests_change : GuestsChange
guests_change p es t plan leads = (has_guests p plan es t leads, λ e a. record { elsewhere = elsewhere p plan es t leads e a; here = here p plan es t leads e a })
