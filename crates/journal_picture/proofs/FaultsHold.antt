-- The laws of faults hold.
use Rattle.std.proofs.Common.{◌≡◌, ◌≢◌, ℕ, zero, suc, ◌+◌, ◌-◌, ◌<◌, ◌==◌, ◌⊎◌, inl, inr, Bool, true, false, not, List, [], ◌∷◌, ◌++◌, length, take, Option, Some, None, Result, Ok, Err, refl, sym, ap, subst, ◌∙◌, arith, slice_index, slice_index_or, eq-eqb}
use Rattle.std.specs.Prelude.{nat_le, nat_lt, ◌&&◌, slice_get, if◌then◌else◌}
use Rattle.std.specs.Option.{is_some, option_map}
use Rattle.std.proofs.lemmas.Bool.Decides.{nat_tests}
use Rattle.transfer_table.specs.Causes.{cause_if, first_cause}
use Rattle.transfer_table.specs.Plan.{Plan, IsPlan, IsHart, IsSite, parent, site_count}
use Rattle.transfer_table.specs.Entry.{hart_of, site_of}
use Rattle.transfer_table.specs.Table.{TableState, admit_of, blank, child_left, common_refusals, effect_of, first_state, hart_inside, is_gone, is_home, is_live, is_new, least_left, no_such_site, other_inside, owner, refusals_of, row, unless_refused}
use Rattle.transfer_table.specs.Journal.{AllGone, Reaches, and_then, first_fault_of, has_register, lacking, lacks, or_refused, refused_from, replay, replay_from, unfinished, unmeant}
use Rattle.transfer_table.specs.declared.entry.Row.{Row}
use Rattle.transfer_table.specs.declared.entry.Stage.{Stage}
use Rattle.transfer_table.specs.declared.entry.Stage.TheVariants.{New, Live, Gone}
use Rattle.transfer_table.specs.declared.entry.Entry.{Entry}
use Rattle.transfer_table.specs.declared.entry.Entry.TheVariants.{Register, Request, Enter, Yield, Unregister, Skip}
use Rattle.transfer_table.specs.declared.entry.NotAdmitted.{NotAdmitted}
use Rattle.transfer_table.specs.declared.entry.NotAdmitted.TheVariants as refusal
use Rattle.transfer_table.specs.declared.fault.Fault.{Fault}
use Rattle.transfer_table.specs.declared.fault.Why.{Why}
use Rattle.transfer_table.specs.declared.fault.Why.TheVariants.{Refused, Unfinished, Unmeant}
use Rattle.transfer_table.proofs.Positions.{Fits, legal_position}
use Rattle.transfer_table.proofs.Faults.{complete, first_fault_of-complete}
use Rattle.journal_picture.specs.Faults.{FaultHasItsReason, FaultIsIncomplete, Fails, Means, wanted_owner}

-- ---- a fault is there exactly if the list isn't complete
none_of : (f : Option Fault) → is_some f ≡ false → f ≡ None
none_of None is = refl
none_of (Some f) is = absurd (cc)

pub fault_incomplete : FaultIsIncomplete
fault_incomplete p meant es plan size =
    (λ is. complete p plan meant es size (none_of (first_fault_of p meant es) is), λ all. ap is_some (first_fault_of-complete p plan meant es size all))

-- ---- what a cause means
either : {A B C : Type 0} → A ⊎ B → (A → C) → (B → C) → C
either (inl a) f g = f a
either (inr b) f g = g b

tested : {A : Type 0} (b : Bool) (a : A) (cs : List (Option A)) (w : A) → first_cause (cause_if b a ∷ cs) ≡ Some w
    → ((b ≡ true) × (a ≡ w)) ⊎ (first_cause cs ≡ Some w)
tested true a cs w is = inl (refl, cc)
tested false a cs w is = inr is

found : {A B : Type 0} (o : Option B) (f : B → A) (cs : List (Option A)) (w : A) → first_cause (option_map f o ∷ cs) ≡ Some w
    → ((x : B) × (o ≡ Some x) × (f x ≡ w)) ⊎ (first_cause cs ≡ Some w)
found None f cs w is = inr is
found (Some x) f cs w is = inl (x, refl, cc)

no_more : {A C : Type 0} (w : A) → first_cause [] ≡ Some w → C
no_more w is = absurd (cc)

refused_by : (f : Option NotAdmitted) (x : TableState) (w : NotAdmitted) → unless_refused f x ≡ Err w → f ≡ Some w
refused_by None x w is = absurd (cc)
refused_by (Some v) x w is = cc

-- ---- tests and what they mean
no_hart : (n h : ℕ) → nat_le n h ≡ true → h < n → ⊥
no_hart n h is lt = let e : nat_le n h ≡ false = grind (arith, nat_tests) in cc

no_site : (p : Plan) (s : ℕ) → no_such_site p s ≡ true → IsSite p s → ⊥
no_site p s is site = let a = site.0 in let b = site.1 in let e : no_such_site p s ≡ false = grind (arith, nat_tests) in cc

differs : (a b : ℕ) → not (a == b) ≡ true → a ≢ b
differs a b is same = let e : (a == b) ≡ true = eq-eqb a b same in absurd (cc)

not_new : (g : Stage) → not (is_new g) ≡ true → g ≢ New
not_new New is = absurd (cc)
not_new Live is = λ z. cc
not_new Gone is = λ z. cc

not_live : (g : Stage) → not (is_live g) ≡ true → g ≢ Live
not_live New is = λ z. cc
not_live Live is = absurd (cc)
not_live Gone is = λ z. cc

not_gone : (g : Stage) → is_gone g ≡ false → g ≢ Gone
not_gone New is = λ z. cc
not_gone Live is = λ z. cc
not_gone Gone is = absurd (cc)

other_home : (o : Option ℕ) (h : ℕ) → not (is_home o h) ≡ true → o ≢ Some h
other_home None h is = λ z. cc
other_home (Some g) h is = λ z. let same : g ≡ h = cc in let e : (g == h) ≡ true = eq-eqb g h same in absurd (cc)

its_home : (o : Option ℕ) (h : ℕ) → is_home o h ≡ true → o ≡ Some h
its_home None h is = absurd (cc)
its_home (Some g) h is = let same : g ≡ h = grind (arith, nat_tests) in ap (λ (x : ℕ). Some x) same

more_than : (n a : ℕ) → nat_lt n a ≡ true → n < a
more_than n a is = grind (arith, nat_tests)

is_none : (k : ℕ) → (k == 0) ≡ true → k ≡ 0
is_none k is = grind (arith, nat_tests)

-- ---- scans and what they find
other_found : (os : List ℕ) (h s k g : ℕ) → other_inside os h s k ≡ Some g
    → (i : ℕ) × (g ≡ k + i) × (i < length os) × (g ≢ h) × (slice_index os i ≡ s)
other_found [] h s k g is = absurd (cc)
other_found (o ∷ os) h s k g is = go (k == h) refl (o == s) refl is (λ more. other_found os h s (k + 1) g more)
  where
    go : (a : Bool) → (k == h) ≡ a → (b : Bool) → (o == s) ≡ b → (if (not a && b) then Some k else other_inside os h s (k + 1)) ≡ Some g
        → (other_inside os h s (k + 1) ≡ Some g → (i : ℕ) × (g ≡ k + 1 + i) × (i < length os) × (g ≢ h) × (slice_index os i ≡ s))
        → (i : ℕ) × (g ≡ k + i) × (i < suc (length os)) × (g ≢ h) × (slice_index (o ∷ os) i ≡ s)
    go false first true second here next =
        let same : k ≡ g = cc in
        let at : o ≡ s = grind (arith, nat_tests) in
        (0, omega (arith, same), omega arith, λ z. let e : (k == h) ≡ true = eq-eqb k h (same ∙ z) in absurd (cc), at)
    go false first false second here next = let more = next here in (suc more.0, omega (arith, more.1), omega (arith, more.2), more.3, more.4)
    go true first b second here next = let more = next here in (suc more.0, omega (arith, more.1), omega (arith, more.2), more.3, more.4)

left_found : (ps : List ℕ) (rs : List Row) (s k c : ℕ) → length rs ≡ length ps → least_left ps rs s k ≡ Some c
    → (i : ℕ) × (c ≡ k + i) × (i < length ps) × (slice_index ps i ≡ s) × ((slice_index_or rs i blank).stage ≢ Gone)
left_found [] rs s k c size is = absurd (cc)
left_found (q ∷ ps) [] s k c size is = absurd (cc)
left_found (q ∷ ps) (r ∷ rs) s k c size is = go (q == s) refl (is_gone r.stage) refl is (λ more. left_found ps rs s (k + 1) c (omega (arith, size)) more)
  where
    go : (a : Bool) → (q == s) ≡ a → (b : Bool) → is_gone r.stage ≡ b → (if (a && not b) then Some k else least_left ps rs s (k + 1)) ≡ Some c
        → (least_left ps rs s (k + 1) ≡ Some c → (i : ℕ) × (c ≡ k + 1 + i) × (i < length ps) × (slice_index ps i ≡ s) × ((slice_index_or rs i blank).stage ≢ Gone))
        → (i : ℕ) × (c ≡ k + i) × (i < suc (length ps)) × (slice_index (q ∷ ps) i ≡ s) × ((slice_index_or (r ∷ rs) i blank).stage ≢ Gone)
    go true first false second here next =
        let same : k ≡ c = cc in
        let at : q ≡ s = grind (arith, nat_tests) in
        (0, omega (arith, same), omega arith, at, not_gone r.stage second)
    go true first true second here next = let more = next here in (suc more.0, omega (arith, more.1), omega (arith, more.2), more.3, more.4)
    go false first b second here next = let more = next here in (suc more.0, omega (arith, more.1), omega (arith, more.2), more.3, more.4)

unfinished_found : (rs : List Row) (k s : ℕ) → unfinished rs k ≡ Some s
    → (i : ℕ) × (s ≡ k + i) × (i < length rs) × ((slice_index_or rs i blank).stage ≢ Gone)
unfinished_found [] k s is = absurd (cc)
unfinished_found (r ∷ rs) k s is = go (is_gone r.stage) refl is (λ more. unfinished_found rs (k + 1) s more)
  where
    go : (b : Bool) → is_gone r.stage ≡ b → (if b then unfinished rs (k + 1) else Some k) ≡ Some s
        → (unfinished rs (k + 1) ≡ Some s → (i : ℕ) × (s ≡ k + 1 + i) × (i < length rs) × ((slice_index_or rs i blank).stage ≢ Gone))
        → (i : ℕ) × (s ≡ k + i) × (i < suc (length rs)) × ((slice_index_or (r ∷ rs) i blank).stage ≢ Gone)
    go false gone here next = let same : k ≡ s = cc in (0, omega (arith, same), omega arith, not_gone r.stage gone)
    go true gone here next = let more = next here in (suc more.0, omega (arith, more.1), omega (arith, more.2), more.3)

gone_stage : (g : Stage) → is_gone g ≡ true → g ≡ Gone
gone_stage New is = absurd (cc)
gone_stage Live is = absurd (cc)
gone_stage Gone is = refl

all_found : (rs : List Row) (k i : ℕ) → unfinished rs k ≡ None → i < length rs → (slice_index_or rs i blank).stage ≡ Gone
all_found [] k i is lt = absurd (omega arith)
all_found (r ∷ rs) k i is lt = go (is_gone r.stage) refl is (λ more j less. all_found rs (k + 1) j more less) i lt
  where
    go : (b : Bool) → is_gone r.stage ≡ b → (if b then unfinished rs (k + 1) else Some k) ≡ None
        → (unfinished rs (k + 1) ≡ None → (j : ℕ) → j < length rs → (slice_index_or rs j blank).stage ≡ Gone)
        → (j : ℕ) → j < suc (length rs) → (slice_index_or (r ∷ rs) j blank).stage ≡ Gone
    go false gone here next j less = absurd (cc)
    go true gone here next zero less = gone_stage r.stage gone
    go true gone here next (suc j) less = next here j (omega (arith, less))

unlike : (b m : Bool) → (if b then m else not m) ≡ false → m ≢ b
unlike true true is = absurd (cc)
unlike true false is = λ z. cc
unlike false true is = λ z. cc
unlike false false is = absurd (cc)

unmeant_found : (f : ℕ → Bool) (ms : List Bool) (k : ℕ) (w : Why) → unmeant f ms k ≡ Some w
    → (i : ℕ) × (w ≡ Unmeant (k + i) (f (k + i))) × (i < length ms) × (slice_index_or ms i false ≢ f (k + i))
unmeant_found f [] k w is = absurd (cc)
unmeant_found f (m ∷ ms) k w is = go (if f k then m else not m) refl is (λ more. unmeant_found f ms (k + 1) w more)
  where
    go : (b : Bool) → (if f k then m else not m) ≡ b → (if b then unmeant f ms (k + 1) else Some (Unmeant k (f k))) ≡ Some w
        → (unmeant f ms (k + 1) ≡ Some w → (i : ℕ) × (w ≡ Unmeant (k + 1 + i) (f (k + 1 + i))) × (i < length ms) × (slice_index_or ms i false ≢ f (k + 1 + i)))
        → (i : ℕ) × (w ≡ Unmeant (k + i) (f (k + i))) × (i < suc (length ms)) × (slice_index_or (m ∷ ms) i false ≢ f (k + i))
    go false test here next =
        let at : k ≡ k + 0 = omega arith in
        let same : w ≡ Unmeant k (f k) = cc in
        (0, same ∙ ap (λ (j : ℕ). Unmeant j (f j)) at, omega arith, subst (λ (j : ℕ). m ≢ f j) at (unlike (f k) m test))
    go true test here next =
        let more = next here in
        let at : k + 1 + more.0 ≡ k + suc more.0 = omega arith in
        (suc more.0, more.1 ∙ ap (λ (j : ℕ). Unmeant j (f j)) at, omega (arith, more.2), subst (λ (j : ℕ). slice_index_or ms more.0 false ≢ f j) at more.3)

-- ---- an entry that the table refuses
common : (p : Plan) (t : TableState) (e : Entry) (rest : List (Option NotAdmitted)) (w : NotAdmitted)
    → first_cause (common_refusals p t (hart_of e) (site_of e) (wanted_owner p e) ++ rest) ≡ Some w → Fails p t e w ⊎ (first_cause rest ≡ Some w)
common p t e rest w is =
    either (tested (nat_le p.harts (hart_of e)) refusal.NoSuchHart _ w is)
    (λ a. inl (subst (Fails p t e) a.1 (no_hart p.harts (hart_of e) a.0)))
    (λ more. either (tested (no_such_site p (site_of e)) refusal.NoSuchSite _ w more)
    (λ a. inl (subst (Fails p t e) a.1 (no_site p (site_of e) a.0)))
    (λ last. either (tested (not (owner t (hart_of e) == wanted_owner p e)) (refusal.NotOwner (owner t (hart_of e))) rest w last)
    (λ a. inl (subst (Fails p t e) a.1 (refl, differs (owner t (hart_of e)) (wanted_owner p e) a.0)))
    (λ b. inr b)))

fails_register : (p : Plan) (t : TableState) (h s : ℕ) (w : NotAdmitted) → first_cause (refusals_of p t (Register h s)) ≡ Some w → Fails p t (Register h s) w
fails_register p t h s w is = either (common p t (Register h s) _ w is) (λ a. a)
    (λ more. either (tested (not (is_new (row t s).stage)) refusal.NotNew [] w more)
    (λ a. subst (Fails p t (Register h s)) a.1 (not_new (row t s).stage a.0)) (no_more w))

fails_skip : (p : Plan) (t : TableState) (h s : ℕ) (w : NotAdmitted) → first_cause (refusals_of p t (Skip h s)) ≡ Some w → Fails p t (Skip h s) w
fails_skip p t h s w is = either (common p t (Skip h s) _ w is) (λ a. a)
    (λ more. either (tested (not (is_new (row t s).stage)) refusal.NotNew [] w more)
    (λ a. subst (Fails p t (Skip h s)) a.1 (not_new (row t s).stage a.0)) (no_more w))

fails_request : (p : Plan) (t : TableState) (h s k : ℕ) (w : NotAdmitted) → first_cause (refusals_of p t (Request h s k)) ≡ Some w → Fails p t (Request h s k) w
fails_request p t h s k w is = either (common p t (Request h s k) _ w is) (λ a. a)
    (λ more. either (tested (not (is_home (row t s).home h)) _ _ w more)
    (λ a. subst (Fails p t (Request h s k)) a.1 (other_home (row t s).home h a.0))
    (λ rest. either (tested (nat_lt (p.harts - 1) ((row t s).asked + k)) _ _ w rest)
    (λ a. subst (Fails p t (Request h s k)) a.1 (refl, more_than (p.harts - 1) ((row t s).asked + k) a.0))
    (λ last. either (tested (k == 0) refusal.NoCount [] w last)
    (λ a. subst (Fails p t (Request h s k)) a.1 (is_none k a.0)) (no_more w))))

fails_enter : (p : Plan) (t : TableState) (h s : ℕ) (w : NotAdmitted) → first_cause (refusals_of p t (Enter h s)) ≡ Some w → Fails p t (Enter h s) w
fails_enter p t h s w is = either (common p t (Enter h s) _ w is) (λ a. a)
    (λ more. either (tested (not (is_live (row t s).stage)) refusal.NotLive _ w more)
    (λ a. subst (Fails p t (Enter h s)) a.1 (not_live (row t s).stage a.0))
    (λ last. either (tested ((row t s).wishes == 0) refusal.NoWish [] w last)
    (λ a. subst (Fails p t (Enter h s)) a.1 (is_none (row t s).wishes a.0)) (no_more w)))

fails_yield : (p : Plan) (t : TableState) (h s : ℕ) (w : NotAdmitted) → first_cause (refusals_of p t (Yield h s)) ≡ Some w → Fails p t (Yield h s) w
fails_yield p t h s w is = either (common p t (Yield h s) _ w is) (λ a. a)
    (λ more. either (tested (is_home (row t s).home h) refusal.IsHome [] w more)
    (λ a. subst (Fails p t (Yield h s)) a.1 (its_home (row t s).home h a.0)) (no_more w))

fails_unregister : (p : Plan) (t : TableState) (h s : ℕ) (w : NotAdmitted) → Fits p t → first_cause (refusals_of p t (Unregister h s)) ≡ Some w → Fails p t (Unregister h s) w
fails_unregister p t h s w fits is = either (common p t (Unregister h s) _ w is) (λ a. a)
    (λ more. either (tested (not (is_home (row t s).home h)) _ _ w more)
    (λ a. subst (Fails p t (Unregister h s)) a.1 (other_home (row t s).home h a.0))
    (λ rest. either (found (hart_inside t h s) refusal.HartInside _ w rest)
    (λ a. subst (Fails p t (Unregister h s)) a.2 (inside a.0 a.1))
    (λ last. either (found (child_left p t s) refusal.ChildLeft [] w last)
    (λ a. subst (Fails p t (Unregister h s)) a.2 (left a.0 a.1)) (no_more w))))
  where
    inside : (g : ℕ) → hart_inside t h s ≡ Some g → IsHart p g × (g ≢ h) × (owner t g ≡ s)
    inside g here =
        let one = other_found t.owners h s 0 g here in
        let at : one.0 ≡ g = omega (arith, one.1) in
        (omega (arith, one.2, at, fits.owners), one.3, subst (λ (j : ℕ). slice_index t.owners j ≡ s) at one.4)

    left : (c : ℕ) → child_left p t s ≡ Some c → IsSite p c × (parent p c ≡ s) × ((row t c).stage ≢ Gone)
    left c here =
        let one = left_found p.parents t.rows s 1 c fits.rows here in
        let at : one.0 ≡ c - 1 = omega (arith, one.1) in (
          (omega (arith, one.1), omega (arith, one.1, one.2)),
          subst (λ (j : ℕ). slice_index p.parents j ≡ s) at one.3,
          subst (λ (j : ℕ). (slice_index_or t.rows j blank).stage ≢ Gone) at one.4,
        )

-- Where the table refuses an entry, the condition that it names fails.
fails : (p : Plan) (t : TableState) (e : Entry) (w : NotAdmitted) → Fits p t → admit_of p t e ≡ Err w → Fails p t e w
fails p t e w fits is = by e (refused_by (first_cause (refusals_of p t e)) (effect_of p t e) w is)
  where
    by : (e : Entry) → first_cause (refusals_of p t e) ≡ Some w → Fails p t e w
    by (Register h s) here = fails_register p t h s w here
    by (Request h s k) here = fails_request p t h s k w here
    by (Enter h s) here = fails_enter p t h s w here
    by (Yield h s) here = fails_yield p t h s w here
    by (Unregister h s) here = fails_unregister p t h s w fits here
    by (Skip h s) here = fails_skip p t h s w here

-- ---- the first refused entry
record RefusedAt (p : Plan) (t : TableState) (es : List Entry) (k : ℕ) (f : Fault) : Type 0 where
  index : ℕ
  why : NotAdmitted
  state : TableState
  entry : Entry
  is : f ≡ record { place = k + index; why = Refused why }
  leads : replay_from p t (take index es) ≡ Ok state
  here : slice_get es index ≡ Some entry
  refused : admit_of p state entry ≡ Err why

refused_at : (p : Plan) (t : TableState) (es : List Entry) (k : ℕ) (f : Fault) → refused_from p t es k ≡ Some f → RefusedAt p t es k f
refused_at p t [] k f is = absurd (cc)
refused_at p t (e ∷ es) k f is = go (admit_of p t e) refl is (λ u more. refused_at p u es (k + 1) f more)
  where
    go : (r : Result TableState NotAdmitted) → admit_of p t e ≡ r → or_refused k (λ u. refused_from p u es (k + 1)) r ≡ Some f
        → ((u : TableState) → refused_from p u es (k + 1) ≡ Some f → RefusedAt p u es (k + 1) f) → RefusedAt p t (e ∷ es) k f
    go (Err w) same here next = record {
      index = 0;
      why = w;
      state = t;
      entry = e;
      is = let one : record { place = k; why = Refused w } ≡ f = cc in let at : k ≡ k + 0 = omega arith in sym one ∙ ap (λ (j : ℕ). record { place = j; why = Refused w }) at;
      leads = refl;
      here = refl;
      refused = same;
    }
    go (Ok u) same here next =
        let more = next u here in record {
          index = suc more.index;
          why = more.why;
          state = more.state;
          entry = more.entry;
          is = let at : k + 1 + more.index ≡ k + suc more.index = omega arith in more.is ∙ ap (λ (j : ℕ). record { place = j; why = Refused more.why }) at;
          leads = subst (λ (r : Result TableState NotAdmitted). and_then (λ v. replay_from p v (take more.index es)) r ≡ Ok more.state) (sym same) more.leads;
          here = more.here;
          refused = more.refused;
        }

refused_means : (p : Plan) (meant : List Bool) (es : List Entry) (f : Fault) → IsPlan p → refused_from p (first_state p) es 0 ≡ Some f → Means p meant es f.place f.why
refused_means p meant es f plan is =
    let one = refused_at p (first_state p) es 0 f is in
    let at : one.index ≡ 0 + one.index = omega arith in
    let fits = legal_position p plan (take one.index es) one.state one.leads in
    let all : Means p meant es one.index (Refused one.why) = (one.state, one.entry, one.leads, one.here, fails p one.state one.entry one.why fits one.refused) in
    subst (λ (g : Fault). Means p meant es g.place g.why) (sym one.is) (subst (λ (j : ℕ). Means p meant es j (Refused one.why)) at all)

-- ---- a list that isn't complete at its end
first_of : (a b : Option Fault) (f : Fault) → first_cause (a ∷ b ∷ []) ≡ Some f → (a ≡ Some f) ⊎ (b ≡ Some f)
first_of (Some g) b f is = inl is
first_of None (Some g) f is = inr is
first_of None None f is = absurd (cc)

at_end : (n : ℕ) (o : Option Why) (f : Fault) → option_map {T = Why} {U = Fault} (λ why. record { place = n; why = why }) o ≡ Some f
    → (o ≡ Some f.why)
at_end n None f is = absurd (cc)
at_end n (Some w) f is = let same : record { place = n; why = w } ≡ f = cc in ap (λ (g : Fault). Some g.why) same

lacks_one : (o : Option ℕ) (u : Option Why) (w : Why) → first_cause (option_map {T = ℕ} {U = Why} Unfinished o ∷ u ∷ []) ≡ Some w
    → ((s : ℕ) × (o ≡ Some s) × (w ≡ Unfinished s)) ⊎ ((o ≡ None) × (u ≡ Some w))
lacks_one (Some s) u w is = inl (s, refl, cc)
lacks_one None (Some v) w is = inr (refl, is)
lacks_one None None w is = absurd (cc)

end_means : (p : Plan) (meant : List Bool) (es : List Entry) (t : TableState) (k : ℕ) (w : Why) → IsPlan p → length meant ≡ site_count p → Reaches p es t
    → lacks meant (has_register es) t ≡ Some w → Means p meant es k w
end_means p meant es t k w plan size leads is =
    let fits = legal_position p plan es t leads in
    either (lacks_one (unfinished t.rows 1) (unmeant (has_register es) meant 1) w is)
    (λ a. subst (Means p meant es k) (sym a.2) (left a.0 fits a.1))
    (λ b. other fits b.0 (unmeant_found (has_register es) meant 1 w b.1))
  where
    left : (s : ℕ) → Fits p t → unfinished t.rows 1 ≡ Some s → Means p meant es k (Unfinished s)
    left s fits here =
        let one = unfinished_found t.rows 1 s here in
        let at : one.0 ≡ s - 1 = omega (arith, one.1) in
        (t, leads, (omega (arith, one.1), omega (arith, one.1, one.2, fits.rows)), subst (λ (j : ℕ). (slice_index_or t.rows j blank).stage ≢ Gone) at one.3)

    other : Fits p t → unfinished t.rows 1 ≡ None → (i : ℕ) × (w ≡ Unmeant (1 + i) (has_register es (1 + i))) × (i < length meant) × (slice_index_or meant i false ≢ has_register es (1 + i)) → Means p meant es k w
    other fits none one =
        let at : one.0 ≡ 1 + one.0 - 1 = omega arith in
        let gone : AllGone p t = λ s site. all_found t.rows 1 (s - 1) none (omega (arith, site.0, site.1, fits.rows)) in
        let all : Means p meant es k (Unmeant (1 + one.0) (has_register es (1 + one.0))) =
        (t, leads, gone, (omega arith, omega (arith, one.2, size)), refl, subst (λ (j : ℕ). slice_index_or meant j false ≢ has_register es (1 + one.0)) at one.3) in
        subst (Means p meant es k) (sym one.1) all

lacking_means : (p : Plan) (meant : List Bool) (es : List Entry) (f : Fault) → IsPlan p → length meant ≡ site_count p
    → (r : Result TableState NotAdmitted) → replay p es ≡ r → lacking meant es r ≡ Some f → Means p meant es f.place f.why
lacking_means p meant es f plan size (Ok t) leads is = end_means p meant es t f.place f.why plan size leads (at_end (length es) (lacks meant (has_register es) t) f is)
lacking_means p meant es f plan size (Err w) leads is = absurd (cc)

pub fault_reason : FaultHasItsReason
fault_reason p meant es f plan size is =
    either (first_of (refused_from p (first_state p) es 0) (lacking meant es (replay p es)) f is)
    (refused_means p meant es f plan)
    (λ b. lacking_means p meant es f plan size (replay p es) refl b)
