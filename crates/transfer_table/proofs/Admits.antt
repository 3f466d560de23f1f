-- An entry is admitted iff it is allowed, and then has its effect.
use Rattle.std.proofs.Common.{◌≡◌, ◌≢◌, ℕ, ◌+◌, ◌-◌, ◌<◌, ◌≤◌, Bool, true, false, not, eqb, nat_le, nat_lt, List, ◌∷◌, refl, sym, ap, ◌∙◌, arith, slice_index, slice_index_or, Option, Some, None, Ok, eq-eqb, ne_eqb}
use Rattle.std.proofs.lemmas.Bool.Decides.{nat_tests}
use Rattle.std.specs.Option.{option_map}
use Rattle.transfer_table.specs.Causes.{cause_if, first_cause}
use Rattle.transfer_table.specs.Plan.{Plan, IsHart, IsSite, parent}
use Rattle.transfer_table.specs.Table.{TableState, IsPosition, admit_of, effect_of, owner, row, blank, is_new, is_live, is_gone, is_home, unless_refused, no_such_site, hart_inside, child_left}
use Rattle.transfer_table.specs.Allowed.{IsAllowed, IsAlone, ChildrenGone}
use Rattle.transfer_table.specs.declared.entry.Stage.{Stage}
use Rattle.transfer_table.specs.declared.entry.Stage.TheVariants.{New, Live, Gone}
use Rattle.transfer_table.specs.declared.entry.Entry.{Entry}
use Rattle.transfer_table.specs.declared.entry.Entry.TheVariants.{Register, Request, Enter, Yield, Unregister, Skip}
use Rattle.transfer_table.specs.declared.entry.NotAdmitted.{NotAdmitted}
use Rattle.transfer_table.proofs.Scans.{no_other, no_child, none_other, none_child}

known_site : (p : Plan) (s : ℕ) → IsSite p s → no_such_site p s ≡ false
known_site p s is = let a = is.0 in let b = is.1 in grind (arith, nat_tests)

known_hart : (n h : ℕ) → h < n → nat_le n h ≡ false
known_hart n h lt = grind (arith, nat_tests)

few_enough : (n k : ℕ) → k ≤ n → nat_lt n k ≡ false
few_enough n k le = grind (arith, nat_tests)

pub not_home : (o : Option ℕ) (h : ℕ) → o ≢ Some h → is_home o h ≡ false
not_home None h n = refl
not_home (Some g) h n = ne_eqb g h (λ e. n (ap (λ (x : ℕ). Some x) e))

pub new_is : (g : Stage) → is_new g ≡ true → g ≡ New
new_is New e = refl
new_is Live e = absurd (cc)
new_is Gone e = absurd (cc)

pub live_is : (g : Stage) → is_live g ≡ true → g ≡ Live
live_is New e = absurd (cc)
live_is Live e = refl
live_is Gone e = absurd (cc)

pub gone_is : (g : Stage) → is_gone g ≡ true → g ≡ Gone
gone_is New e = absurd (cc)
gone_is Live e = absurd (cc)
gone_is Gone e = refl

home_is : (o : Option ℕ) (h : ℕ) → is_home o h ≡ true → o ≡ Some h
home_is None h e = absurd (cc)
home_is (Some g) h e = let same : g ≡ h = grind (arith, nat_tests) in ap (λ (x : ℕ). Some x) same

home_not : (o : Option ℕ) (h : ℕ) → is_home o h ≡ false → o ≢ Some h
home_not None h e = λ z. cc
home_not (Some g) h e = λ z. let same : g ≡ h = cc in absurd (let w : true ≡ false = sym (eq-eqb g h same) ∙ e in cc)

pub admits_register : (p : Plan) (t : TableState) (h s : ℕ) → IsHart p h → IsSite p s → owner t h ≡ parent p s → (row t s).stage ≡ New
    → admit_of p t (Register h s) ≡ Ok (effect_of p t (Register h s))
admits_register p t h s a b c d = rw (known_hart p.harts h a, known_site p s b, eq-eqb (owner t h) (parent p s) c, d) refl

pub admits_request : (p : Plan) (t : TableState) (h s k : ℕ) → IsHart p h → IsSite p s → owner t h ≡ s → (row t s).home ≡ Some h → 1 ≤ k → (row t s).asked + k ≤ p.harts - 1
    → admit_of p t (Request h s k) ≡ Ok (effect_of p t (Request h s k))
admits_request p t h s k a b c d e f = rw (known_hart p.harts h a, known_site p s b, eq-eqb (owner t h) s c, d, eq-eqb h h refl, few_enough (p.harts - 1) ((row t s).asked + k) f, ne_eqb k 0 (λ z. omega arith)) refl

pub admits_enter : (p : Plan) (t : TableState) (h s : ℕ) → IsHart p h → IsSite p s → owner t h ≡ parent p s → (row t s).stage ≡ Live → 1 ≤ (row t s).wishes
    → admit_of p t (Enter h s) ≡ Ok (effect_of p t (Enter h s))
admits_enter p t h s a b c d e = rw (known_hart p.harts h a, known_site p s b, eq-eqb (owner t h) (parent p s) c, d, ne_eqb (row t s).wishes 0 (λ z. omega arith)) refl

pub admits_yield : (p : Plan) (t : TableState) (h s : ℕ) → IsHart p h → IsSite p s → owner t h ≡ s → (row t s).home ≢ Some h
    → admit_of p t (Yield h s) ≡ Ok (effect_of p t (Yield h s))
admits_yield p t h s a b c d = rw (known_hart p.harts h a, known_site p s b, eq-eqb (owner t h) s c, not_home (row t s).home h d) refl

pub admits_skip : (p : Plan) (t : TableState) (h s : ℕ) → IsHart p h → IsSite p s → owner t h ≡ parent p s → (row t s).stage ≡ New
    → admit_of p t (Skip h s) ≡ Ok (effect_of p t (Skip h s))
admits_skip p t h s a b c d = rw (known_hart p.harts h a, known_site p s b, eq-eqb (owner t h) (parent p s) c, d) refl

-- If no other hart is inside, the scan finds none.
pub hart_inside-none : (p : Plan) (t : TableState) (h s : ℕ) → IsPosition record { plan = p; state = t } → IsAlone p t h s → hart_inside t h s ≡ None
hart_inside-none p t h s is alone = no_other t.owners h s 0 (λ g lt n. alone g (let z = is.owners in omega arith) (λ e. n (omega arith)))

-- If each child is gone, the scan finds none.
pub child_left-none : (p : Plan) (t : TableState) (s : ℕ) → IsPosition record { plan = p; state = t } → ChildrenGone p t s → child_left p t s ≡ None
child_left-none p t s is gone = no_child p.parents t.rows s 1 blank is.rows (λ i lt e. let same : i + 1 - 1 ≡ i = omega arith in
    let up : parent p (i + 1) ≡ s = ap (slice_index p.parents) same ∙ e in
    ap is_gone (ap (λ (j : ℕ). (slice_index_or t.rows j blank).stage) (sym same) ∙ gone (i + 1) (omega arith, omega arith) up))

pub admits_unregister : (p : Plan) (t : TableState) (h s : ℕ) → IsPosition record { plan = p; state = t } → IsHart p h → IsSite p s → owner t h ≡ s → (row t s).home ≡ Some h → IsAlone p t h s → ChildrenGone p t s
    → admit_of p t (Unregister h s) ≡ Ok (effect_of p t (Unregister h s))
admits_unregister p t h s is a b c d e f = rw (known_hart p.harts h a, known_site p s b, eq-eqb (owner t h) s c, d, eq-eqb h h refl, hart_inside-none p t h s is e, child_left-none p t s is f) refl

-- An allowed entry is admitted.
pub admits : (p : Plan) (t : TableState) (e : Entry) → IsPosition record { plan = p; state = t } → IsAllowed p t e → admit_of p t e ≡ Ok (effect_of p t e)
admits p t (Register h s) is a = admits_register p t h s a.0 a.1 a.2 a.3
admits p t (Request h s k) is a = admits_request p t h s k a.0 a.1 a.2 a.3 a.4 a.5
admits p t (Enter h s) is a = admits_enter p t h s a.0 a.1 a.2 a.3 a.4
admits p t (Yield h s) is a = admits_yield p t h s a.0 a.1 a.2 a.3
admits p t (Unregister h s) is a = admits_unregister p t h s is a.0 a.1 a.2 a.3 a.4 a.5
admits p t (Skip h s) is a = admits_skip p t h s a.0 a.1 a.2 a.3

clean : (f : Option NotAdmitted) (x u : TableState) → unless_refused f x ≡ Ok u → (f ≡ None) × (u ≡ x)
clean None x u e = (refl, cc)
clean (Some g) x u e = absurd (cc)

passed : (b : Bool) (f : NotAdmitted) (fs : List (Option NotAdmitted)) → first_cause (cause_if b f ∷ fs) ≡ None → (b ≡ false) × (first_cause fs ≡ None)
passed true f fs e = absurd (cc)
passed false f fs e = (refl, e)

absent : {A : Type 0} (o : Option A) (f : A → NotAdmitted) (fs : List (Option NotAdmitted)) → first_cause (option_map f o ∷ fs) ≡ None → (o ≡ None) × (first_cause fs ≡ None)
absent (Some g) f fs e = absurd (cc)
absent None f fs e = (refl, e)

in_harts : (n h : ℕ) → nat_le n h ≡ false → h < n
in_harts n h e = grind (arith, nat_tests)

in_sites : (p : Plan) (s : ℕ) → no_such_site p s ≡ false → IsSite p s
in_sites p s e = (grind (arith, nat_tests), grind (arith, nat_tests))

same_site : (a b : ℕ) → not (eqb a b) ≡ false → a ≡ b
same_site a b e = grind (arith, nat_tests)

holds_of : (b : Bool) → not b ≡ false → b ≡ true
holds_of true e = refl
holds_of false e = absurd (cc)

few_of : (n a k : ℕ) → nat_lt n (a + k) ≡ false → a + k ≤ n
few_of n a k e = grind (arith, nat_tests)

some_of : (k : ℕ) → eqb k 0 ≡ false → 1 ≤ k
some_of k e = grind (arith, nat_tests)

-- An admitted entry was allowed, and the new state is its effect.
pub admitted : (p : Plan) (t : TableState) (e : Entry) (u : TableState) → IsPosition record { plan = p; state = t } → admit_of p t e ≡ Ok u → IsAllowed p t e × (u ≡ effect_of p t e)
admitted p t (Register h s) u size is = let c = clean _ _ u is in let a = passed _ _ _ c.0 in let b = passed _ _ _ a.1 in let d = passed _ _ _ b.1 in let g = passed _ _ _ d.1 in
    ((in_harts p.harts h a.0, in_sites p s b.0, same_site (owner t h) (parent p s) d.0, new_is (row t s).stage (holds_of (is_new (row t s).stage) g.0)), c.1)
admitted p t (Request h s k) u size is = let c = clean _ _ u is in let a = passed _ _ _ c.0 in let b = passed _ _ _ a.1 in let d = passed _ _ _ b.1 in let g = passed _ _ _ d.1 in let i = passed _ _ _ g.1 in let j = passed _ _ _ i.1 in
    ((in_harts p.harts h a.0, in_sites p s b.0, same_site (owner t h) s d.0, home_is (row t s).home h (holds_of (is_home (row t s).home h) g.0), some_of k j.0, few_of (p.harts - 1) (row t s).asked k i.0), c.1)
admitted p t (Enter h s) u size is = let c = clean _ _ u is in let a = passed _ _ _ c.0 in let b = passed _ _ _ a.1 in let d = passed _ _ _ b.1 in let g = passed _ _ _ d.1 in let i = passed _ _ _ g.1 in
    ((in_harts p.harts h a.0, in_sites p s b.0, same_site (owner t h) (parent p s) d.0, live_is (row t s).stage (holds_of (is_live (row t s).stage) g.0), some_of (row t s).wishes i.0), c.1)
admitted p t (Yield h s) u size is = let c = clean _ _ u is in let a = passed _ _ _ c.0 in let b = passed _ _ _ a.1 in let d = passed _ _ _ b.1 in let g = passed _ _ _ d.1 in
    ((in_harts p.harts h a.0, in_sites p s b.0, same_site (owner t h) s d.0, home_not (row t s).home h g.0), c.1)
admitted p t (Unregister h s) u size is = let c = clean _ _ u is in let a = passed _ _ _ c.0 in let b = passed _ _ _ a.1 in let d = passed _ _ _ b.1 in let g = passed _ _ _ d.1 in let i = absent _ _ _ g.1 in let j = absent _ _ _ i.1 in (
  (
    in_harts p.harts h a.0,
    in_sites p s b.0,
    same_site (owner t h) s d.0,
    home_is (row t s).home h (holds_of (is_home (row t s).home h) g.0),
    λ g' lt n. none_other t.owners h s 0 g' i.0 (let z = size.owners in omega arith) (λ z. n (omega arith)),
    λ x in_plan up. let low = in_plan.0 in let high = in_plan.1 in gone_is (row t x).stage (none_child p.parents t.rows s 1 (x - 1) blank j.0 size.rows (omega arith) up),
  ),
  c.1,
)
admitted p t (Skip h s) u size is = let c = clean _ _ u is in let a = passed _ _ _ c.0 in let b = passed _ _ _ a.1 in let d = passed _ _ _ b.1 in let g = passed _ _ _ d.1 in
    ((in_harts p.harts h a.0, in_sites p s b.0, same_site (owner t h) (parent p s) d.0, new_is (row t s).stage (holds_of (is_new (row t s).stage) g.0)), c.1)
