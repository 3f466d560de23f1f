-- A legal list requests for each site at most the other harts, for plans of any size.
use Rattle.std.proofs.Common.{◌≡◌, ◌≢◌, ℕ, zero, suc, ◌+◌, ◌-◌, ◌<◌, ◌≤◌, nat_le, nat_lt, Bool, true, false, not, if◌then◌else◌, cond, ◌==◌, List, [], ◌∷◌, ◌++◌, get_or, Option, Some, None, Ok, sym, ap, refl, ◌∙◌, subst, arith, eq-eqb, ne_eqb}
use Rattle.std.proofs.lemmas.Bool.Decides.{nat_tests}
use Rattle.std.proofs.lemmas.List.{length-replicate}
use Rattle.std.proofs.lemmas.List.Sums.{sum_by-append}
use mathlib.Core.Logic.{dite}
use native.Mathlib.Decide.{ℕ_discrete}
use Rattle.transfer_table.specs.Causes.{cause_if, first_cause}
use Rattle.transfer_table.specs.Plan.{Plan, IsSite, parent, site_count, is_within}
use Rattle.transfer_table.specs.Table.{TableState, effect_of, first_state, owner, row, blank, is_new, is_live, is_home, home_number, common_refusals, hart_inside, child_left, swept, swept_row, unless_refused, refusals_of, no_such_site}
use Rattle.transfer_table.specs.Journal.{replay_from, and_then}
use Rattle.transfer_table.specs.Entry.{site_of, count_of, requested}
use Rattle.transfer_table.specs.declared.entry.Row.{Row}
use Rattle.transfer_table.specs.declared.entry.Stage.TheVariants.{New}
use Rattle.transfer_table.specs.declared.entry.NotAdmitted.{NotAdmitted}
use Rattle.transfer_table.specs.declared.entry.NotAdmitted.TheVariants as refusal
use Rattle.std.specs.Option.{option_map}
use Rattle.transfer_table.specs.declared.entry.Entry.{Entry}
use Rattle.transfer_table.specs.declared.entry.Entry.TheVariants.{Register, Request, Enter, Yield, Unregister, Skip}
use Rattle.transfer_table.proofs.Admits.{new_is}
use Rattle.transfer_table.proofs.Lists.{replicate_at}
use Rattle.transfer_table.proofs.Sweeps.{length-swept}
use Rattle.table_laws.specs.Planned.{plan_of_run, planned}
use Rattle.table_laws.specs.Laws.{LegalRunsAskFew}
use Rattle.table_laws.proofs.Transfers.{IsSized, Changes, register_changes, request_changes, enter_changes, yield_changes, unregister_changes}

-- ---- why an entry was admitted

passed : (b : Bool) (f : NotAdmitted) (fs : List (Option NotAdmitted)) → first_cause (cause_if b f ∷ fs) ≡ None → (b ≡ false) × (first_cause fs ≡ None)
passed true f fs e = absurd (cc)
passed false f fs e = (refl, e)

is_true : (b : Bool) → not b ≡ false → b ≡ true
is_true true e = refl
is_true false e = absurd (cc)

in_harts : (n h : ℕ) → nat_le n h ≡ false → h < n
in_harts n h e = grind (arith, nat_tests)

in_sites : (p : Plan) (s : ℕ) → no_such_site p s ≡ false → IsSite p s
in_sites p s e = (grind (arith, nat_tests), grind (arith, nat_tests))

few_of : (n a k : ℕ) → nat_lt n (a + k) ≡ false → a + k ≤ n
few_of n a k e = grind (arith, nat_tests)

-- The hart and the site of an admitted entry are the plan's.
known : (p : Plan) (u : TableState) (h s wanted : ℕ) (fs : List (Option NotAdmitted)) → first_cause (common_refusals p u h s wanted ++ fs) ≡ None
    → (h < p.harts) × IsSite p s × (first_cause fs ≡ None)
known p u h s wanted fs is =
    let owned : List (Option NotAdmitted) = cause_if (not (owner u h == wanted)) (refusal.NotOwner (owner u h)) ∷ fs in
    let a = passed (nat_le p.harts h) refusal.NoSuchHart (cause_if (no_such_site p s) refusal.NoSuchSite ∷ owned) is in
    let b = passed (no_such_site p s) refusal.NoSuchSite owned a.1 in
    let c = passed (not (owner u h == wanted)) (refusal.NotOwner (owner u h)) fs b.1 in
    (in_harts p.harts h a.0, in_sites p s b.0, c.1)

-- ---- what an entry requests

requested_one : (s : ℕ) (e : Entry) → requested s (e ∷ []) ≡ (if site_of e == s then count_of e else 0)
requested_one s e = let x : ℕ = if site_of e == s then count_of e else 0 in let z : 0 + x ≡ x = omega arith in z

requested_here : (s : ℕ) (e : Entry) → site_of e ≡ s → requested s (e ∷ []) ≡ count_of e
requested_here s e is = requested_one s e ∙ ap (λ (b : Bool). if b then count_of e else 0) (eq-eqb (site_of e) s is)

requested_there : (s : ℕ) (e : Entry) → s ≢ site_of e → requested s (e ∷ []) ≡ 0
requested_there s e ne = requested_one s e ∙ ap (λ (b : Bool). if b then count_of e else 0) (ne_eqb (site_of e) s (λ z. ne (sym z)))

requested-cons : (s : ℕ) (e : Entry) (es : List Entry) → requested s (e ∷ es) ≡ requested s (e ∷ []) + requested s es
requested-cons s e es = sum_by-append (λ q. if site_of q == s then count_of q else 0) (e ∷ []) es

-- ---- what an entry adds to what its site asked

-- A row that is new has asked for nothing and has no home.
abbrev IsUnasked : Row → Type 0
IsUnasked r = r.stage ≡ New → (r.asked ≡ 0) × (r.home ≡ None)

-- A new site has asked for nothing, and no site for more than the other harts.
record AsksFew (p : Plan) (u : TableState) : Type 0 where
  sized : IsSized p u
  none : (s : ℕ) → IsSite p s → IsUnasked (row u s)
  few : (s : ℕ) → IsSite p s → (row u s).asked ≤ p.harts - 1

-- After the entry the same holds, and each site has asked for what the entry requests.
record Adds (p : Plan) (u v : TableState) (e : Entry) : Type 0 where
  still : AsksFew p v
  asked : (s : ℕ) → IsSite p s → (row v s).asked ≡ (row u s).asked + requested s (e ∷ [])

adds_here : (p : Plan) (u v : TableState) (h o s : ℕ) (r : Row) (e : Entry) → AsksFew p u → Changes p u v h o s r → site_of e ≡ s
    → IsUnasked r → r.asked ≤ p.harts - 1 → r.asked ≡ (row u s).asked + count_of e → Adds p u v e
adds_here p u v h o s r e F C is none few asked = record {
  still = record {
    sized = C.sized;
    none = λ y site. at y site IsUnasked none (F.none y site);
    few = λ y site. at y site (λ q. q.asked ≤ p.harts - 1) few (F.few y site);
  };
  asked = λ y site. dite (ℕ_discrete y s)
      (λ e'. subst (λ (q : ℕ). (row v q).asked ≡ (row u q).asked + requested q (e ∷ [])) (sym e')
      (let a : (row v s).asked ≡ r.asked = ap (λ (q : Row). q.asked) C.here in let b = requested_here s e is in omega arith))
      (λ ne. let a : (row v y).asked ≡ (row u y).asked = ap (λ (q : Row). q.asked) (C.there y site ne) in let b = requested_there y e (λ z. ne (z ∙ is)) in omega arith);
}
  where
    at : (y : ℕ) → IsSite p y → (P : Row → Type 0) → P r → P (row u y) → P (row v y)
    at y site P here there = dite (ℕ_discrete y s)
        (λ e'. subst (λ (q : ℕ). P (row v q)) (sym e') (subst P (sym C.here) here))
        (λ ne. subst P (sym (C.there y site ne)) there)

swept_asked : (p : Plan) (s : ℕ) (rs : List Row) (k i : ℕ) → (get_or (swept p s rs k) i blank).asked ≡ (get_or rs i blank).asked
swept_asked p s [] k i = refl
swept_asked p s (r ∷ rs) k zero = by_case (is_within p s k)
  where
    by_case : (b : Bool) → (if b then swept_row r else r).asked ≡ r.asked
    by_case true = refl
    by_case false = refl
swept_asked p s (r ∷ rs) k (suc i) = swept_asked p s rs (k + 1) i

swept_unasked : (p : Plan) (s : ℕ) (rs : List Row) (k i : ℕ) → IsUnasked (get_or rs i blank) → IsUnasked (get_or (swept p s rs k) i blank)
swept_unasked p s [] k i is = is
swept_unasked p s (r ∷ rs) k zero is = by_case (is_within p s k)
  where
    by_case : (b : Bool) → IsUnasked (if b then swept_row r else r)
    by_case true e = absurd (cc)
    by_case false e = is e
swept_unasked p s (r ∷ rs) k (suc i) is = swept_unasked p s rs (k + 1) i is

adds_skip : (p : Plan) (u : TableState) (h s : ℕ) → AsksFew p u → Adds p u (effect_of p u (Skip h s)) (Skip h s)
adds_skip p u h s F = record {
  still = record {
    sized = record { owners = F.sized.owners; rows = length-swept p s u.rows 1 ∙ F.sized.rows };
    none = λ y site. swept_unasked p s u.rows 1 (y - 1) (F.none y site);
    few = λ y site. let a = swept_asked p s u.rows 1 (y - 1) in let b = F.few y site in omega arith;
  };
  asked = λ y site. let a = swept_asked p s u.rows 1 (y - 1) in let b = none (s == y) in let c : requested y (Skip h s ∷ []) ≡ cond {A = ℕ} (s == y) 0 0 = requested_one y (Skip h s) in omega arith;
}
  where
    none : (b : Bool) → cond {A = ℕ} b 0 0 ≡ 0
    none true = refl
    none false = refl

adds : (p : Plan) (u : TableState) (e : Entry) → AsksFew p u → first_cause (refusals_of p u e) ≡ None → Adds p u (effect_of p u e) e
adds p u (Register h s) F is =
    let last : List (Option NotAdmitted) = cause_if (not (is_new (row u s).stage)) refusal.NotNew ∷ [] in
    let a = known p u h s (parent p s) last is in
    let fresh = passed (not (is_new (row u s).stage)) refusal.NotNew [] a.2 in
    let old = (F.none s a.1 (new_is (row u s).stage (is_true (is_new (row u s).stage) fresh.0))).0 in
    adds_here p u _ h s s _ (Register h s) F (register_changes p u F.sized h s a.0 a.1) refl (λ e. absurd (cc)) (omega arith) (omega arith)
adds p u (Request h s k) F is =
    let none : List (Option NotAdmitted) = cause_if (k == 0) refusal.NoCount ∷ [] in
    let many : List (Option NotAdmitted) = cause_if (nat_lt (p.harts - 1) ((row u s).asked + k)) (refusal.TooManyWished (row u s).asked) ∷ none in
    let last : List (Option NotAdmitted) = cause_if (not (is_home (row u s).home h)) (refusal.NotHome (home_number (row u s).home)) ∷ many in
    let a = known p u h s s last is in
    let home = passed (not (is_home (row u s).home h)) (refusal.NotHome (home_number (row u s).home)) many a.2 in
    let fits = passed (nat_lt (p.harts - 1) ((row u s).asked + k)) (refusal.TooManyWished (row u s).asked) none home.1 in
    adds_here p u _ h (owner u h) s _ (Request h s k) F (request_changes p u F.sized h s a.0 a.1 k) refl
    (λ e. let away : is_home (row u s).home h ≡ false = ap (λ (q : Option ℕ). is_home q h) (F.none s a.1 e).1 in let mine = is_true (is_home (row u s).home h) home.0 in absurd (cc))
    (few_of (p.harts - 1) (row u s).asked k fits.0)
    refl
adds p u (Enter h s) F is =
    let last : List (Option NotAdmitted) = cause_if (not (is_live (row u s).stage)) refusal.NotLive ∷ cause_if ((row u s).wishes == 0) refusal.NoWish ∷ [] in
    let a = known p u h s (parent p s) last is in
    adds_here p u _ h s s _ (Enter h s) F (enter_changes p u F.sized h s a.0 a.1) refl (F.none s a.1) (F.few s a.1) (omega arith)
adds p u (Yield h s) F is =
    let a = known p u h s s (cause_if (is_home (row u s).home h) refusal.IsHome ∷ []) is in
    adds_here p u _ h (parent p s) s _ (Yield h s) F (yield_changes p u F.sized h s a.0 a.1) refl (F.none s a.1) (F.few s a.1) (omega arith)
adds p u (Unregister h s) F is =
    let last : List (Option NotAdmitted) = cause_if (not (is_home (row u s).home h)) (refusal.NotHome (home_number (row u s).home))
    ∷ option_map refusal.HartInside (hart_inside u h s) ∷ option_map refusal.ChildLeft (child_left p u s) ∷ [] in
    let a = known p u h s s last is in
    adds_here p u _ h (parent p s) s _ (Unregister h s) F (unregister_changes p u F.sized h s a.0 a.1) refl (λ e. absurd (cc)) (F.few s a.1) (omega arith)
adds p u (Skip h s) F is = adds_skip p u h s F

-- ---- a whole list

-- No site asks for more than the other harts before these entries and by them.
asks : (p : Plan) (es : List Entry) (u w : TableState) → AsksFew p u → replay_from p u es ≡ Ok w → (s : ℕ) → IsSite p s → (row u s).asked + requested s es ≤ p.harts - 1
asks p [] u w F is s site = let low = F.few s site in omega arith
asks p (e ∷ es) u w F is s site = by_cause (first_cause (refusals_of p u e)) refl is (λ v G left. asks p es v w G left s site)
  where
    by_cause : (f : Option NotAdmitted) → first_cause (refusals_of p u e) ≡ f → and_then (λ v. replay_from p v es) (unless_refused f (effect_of p u e)) ≡ Ok w
        → ((v : TableState) → AsksFew p v → replay_from p v es ≡ Ok w → (row v s).asked + requested s es ≤ p.harts - 1) → (row u s).asked + requested s (e ∷ es) ≤ p.harts - 1
    by_cause (Some g) same left again = absurd (cc)
    by_cause None same left again =
        let D = adds p u e F same in
        let rest = again (effect_of p u e) D.still left in
        let one = D.asked s site in let both = requested-cons s e es in omega arith

first_asks_few : (p : Plan) → AsksFew p (first_state p)
first_asks_few p = record {
  sized = record { owners = length-replicate p.harts 0; rows = length-replicate (site_count p) blank };
  none = λ s site new. (ap (λ (r : Row). r.asked) (at s), ap (λ (r : Row). r.home) (at s));
  few = λ s site. let e : (row (first_state p) s).asked ≡ 0 = ap (λ (r : Row). r.asked) (at s) in omega arith;
}
  where
    at : (s : ℕ) → row (first_state p) s ≡ blank
    at s = replicate_at (site_count p) (s - 1) blank

pub legal_runs_ask_few : LegalRunsAskFew
legal_runs_ask_few z es legal s site =
    let p = plan_of_run z es in
    let all = asks p (planned es) (first_state p) legal.0 (first_asks_few p) legal.1 s site in
    omega arith
