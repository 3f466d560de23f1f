-- The first fault, step by step. There is none iff the list is complete.
use Rattle.std.proofs.Common.{◌≡◌, ◌≢◌, ℕ, zero, suc, ◌+◌, ◌-◌, ◌<◌, Bool, true, false, not, if◌then◌else◌, List, [], ◌∷◌, length, drop, get_or, refl, sym, ap, ◌∙◌, ◌↔◌, add-one, arith, Option, Some, None, Result, Ok, Err}
use mathlib.Core.Bool.{beq}
use Rattle.std.specs.Option.{option_map, is_some}
use Rattle.transfer_table.specs.Causes.{first_cause}
use Rattle.transfer_table.specs.Plan.{Plan, IsPlan, site_count}
use Rattle.transfer_table.specs.Table.{TableState, admit_of, first_state, row, blank, is_gone}
use Rattle.transfer_table.specs.Journal.{Reaches, replay, replay_from, and_then, or_refused, refused_from, first_fault_of, unfinished, unmeant, lacks, lacking, has_register, IsComplete}
use Rattle.transfer_table.specs.declared.entry.Row.{Row}
use Rattle.transfer_table.specs.declared.entry.Entry.{Entry}
use Rattle.transfer_table.specs.declared.entry.NotAdmitted.{NotAdmitted}
use Rattle.transfer_table.specs.declared.entry.Stage.TheVariants.{Gone}
use Rattle.transfer_table.specs.declared.fault.Fault.{Fault}
use Rattle.transfer_table.specs.declared.fault.Why.{Why}
use Rattle.transfer_table.specs.declared.fault.Why.TheVariants.{Refused, Unfinished, Unmeant}
use Rattle.transfer_table.proofs.Admits.{gone_is}
use Rattle.transfer_table.proofs.Positions.{legal_position}
use Rattle.transfer_table.proofs.Balance.{registered-home}

skip_row : (rs : List Row) (k i : ℕ) (d : Row) → i < length rs → is_gone (get_or rs i d).stage ≡ true → unfinished (drop i rs) k ≡ unfinished (drop (suc i) rs) (k + 1)
skip_row [] k i d lt e = absurd (omega arith)
skip_row (r ∷ rs) k zero d lt e = rw e refl
skip_row (r ∷ rs) k (suc i) d lt e = skip_row rs k i d (omega arith) e

-- The row at index i is gone.
pub next_row : (rs : List Row) (k i : ℕ) (d : Row) → i < length rs → is_gone (get_or rs i d).stage ≡ true → unfinished (drop i rs) k ≡ unfinished (drop (i + 1) rs) (k + 1)
next_row rs k i d lt e = rw (add-one i) (skip_row rs k i d lt e)

stop_row : (rs : List Row) (k i : ℕ) (d : Row) → i < length rs → is_gone (get_or rs i d).stage ≡ false → unfinished (drop i rs) k ≡ Some k
stop_row [] k i d lt e = absurd (omega arith)
stop_row (r ∷ rs) k zero d lt e = rw e refl
stop_row (r ∷ rs) k (suc i) d lt e = stop_row rs k i d (omega arith) e

-- The row at index i isn't gone.
pub this_row : (rs : List Row) (k i : ℕ) (d : Row) → i < length rs → is_gone (get_or rs i d).stage ≡ false → unfinished (drop i rs) k ≡ Some k
this_row rs k i d lt e = stop_row rs k i d lt e

at_place : (es : List Entry) (i : ℕ) (d : Entry) → i < length es → drop i es ≡ get_or es i d ∷ drop (suc i) es
at_place [] i d lt = absurd (omega arith)
at_place (e ∷ es) zero d lt = refl
at_place (e ∷ es) (suc i) d lt = at_place es i d (omega arith)

one_more : (p : Plan) (t : TableState) (es : List Entry) (i : ℕ) (d : Entry) → i < length es → refused_from p t (drop i es) i ≡ or_refused i (λ u. refused_from p u (drop (i + 1) es) (i + 1)) (admit_of p t (get_or es i d))
one_more p t es i d lt = ap (λ (l : List Entry). refused_from p t l i) (at_place es i d lt) ∙ ap (λ (j : ℕ). or_refused i (λ u. refused_from p u (drop j es) (i + 1)) (admit_of p t (get_or es i d))) (sym (add-one i))

-- The entry at index i is admitted.
pub next_entry : (p : Plan) (t u : TableState) (es : List Entry) (i : ℕ) (d : Entry) → i < length es → admit_of p t (get_or es i d) ≡ Ok u → refused_from p t (drop i es) i ≡ refused_from p u (drop (i + 1) es) (i + 1)
next_entry p t u es i d lt e = one_more p t es i d lt ∙ ap (or_refused i (λ v. refused_from p v (drop (i + 1) es) (i + 1))) e

-- The entry at index i is refused.
pub this_entry : (p : Plan) (t : TableState) (es : List Entry) (i : ℕ) (d : Entry) (f : NotAdmitted) → i < length es → admit_of p t (get_or es i d) ≡ Err f → refused_from p t (drop i es) i ≡ Some record { place = i; why = Refused f }
this_entry p t es i d f lt e = one_more p t es i d lt ∙ ap (or_refused i (λ v. refused_from p v (drop (i + 1) es) (i + 1))) e

-- The replay continues after an admitted entry.
pub next_replay : (p : Plan) (t u : TableState) (es : List Entry) (i : ℕ) (d : Entry) → i < length es → admit_of p t (get_or es i d) ≡ Ok u → replay_from p t (drop i es) ≡ replay_from p u (drop (i + 1) es)
next_replay p t u es i d lt e = ap (replay_from p t) (at_place es i d lt) ∙ (ap (λ (r : Result TableState NotAdmitted). and_then (λ v. replay_from p v (drop (suc i) es)) r) e ∙ ap (λ (j : ℕ). replay_from p u (drop j es)) (sym (add-one i)))

all_gone : (rs : List Row) (k i : ℕ) (d : Row) → unfinished rs k ≡ None → i < length rs → (get_or rs i d).stage ≡ Gone
all_gone [] k i d e lt = absurd (omega arith)
all_gone (r ∷ rs) k i d e lt = first (is_gone r.stage) refl e (λ f j lt'. all_gone rs (k + 1) j d f lt') i lt
  where
    first : (b : Bool) → is_gone r.stage ≡ b → (if b then unfinished rs (k + 1) else Some k) ≡ None → (unfinished rs (k + 1) ≡ None → (j : ℕ) → j < length rs → (get_or rs j d).stage ≡ Gone) → (j : ℕ) → j < suc (length rs) → (get_or (r ∷ rs) j d).stage ≡ Gone
    first false q f again j l = absurd (cc)
    first true q f again zero l = gone_is r.stage q
    first true q f again (suc j) l = again f j (omega arith)

none_unfinished : (rs : List Row) (k : ℕ) (d : Row) → ((i : ℕ) → i < length rs → (get_or rs i d).stage ≡ Gone) → unfinished rs k ≡ None
none_unfinished [] k d f = refl
none_unfinished (r ∷ rs) k d f = rw (f 0 (omega arith)) (none_unfinished rs (k + 1) d (λ i lt. f (suc i) (omega arith)))

-- A list of which no entry is refused leads to a state.
none_refused : (p : Plan) (t : TableState) (es : List Entry) (k : ℕ) → refused_from p t es k ≡ None → (u : TableState) × (replay_from p t es ≡ Ok u)
none_refused p t [] k e = (t, refl)
none_refused p t (x ∷ xs) k e = more (admit_of p t x) e (λ u f. none_refused p u xs (k + 1) f)
  where
    more : (r : Result TableState NotAdmitted) → or_refused k (λ u. refused_from p u xs (k + 1)) r ≡ None → ((u : TableState) → refused_from p u xs (k + 1) ≡ None → (v : TableState) × (replay_from p u xs ≡ Ok v))
        → (v : TableState) × (and_then (λ u. replay_from p u xs) r ≡ Ok v)
    more (Ok u) f again = again u f
    more (Err g) f again = absurd (cc)

refused_from-none : (p : Plan) (t u : TableState) (es : List Entry) (k : ℕ) → replay_from p t es ≡ Ok u → refused_from p t es k ≡ None
refused_from-none p t u [] k e = refl
refused_from-none p t u (x ∷ xs) k e = more (admit_of p t x) e (λ v g. refused_from-none p v u xs (k + 1) g)
  where
    more : (r : Result TableState NotAdmitted) → and_then (λ v. replay_from p v xs) r ≡ Ok u → ((v : TableState) → replay_from p v xs ≡ Ok u → refused_from p v xs (k + 1) ≡ None) → or_refused k (λ v. refused_from p v xs (k + 1)) r ≡ None
    more (Ok v) g again = again v g
    more (Err g') g again = absurd (cc)

-- One step of the scan for a site that is or isn't meant.
agree-true : (b m : Bool) → (if b then m else not m) ≡ true → b ≡ m
agree-true true m e = sym e
agree-true false true e = absurd (cc)
agree-true false false e = refl

agree-same : (b m : Bool) → b ≡ m → (if b then m else not m) ≡ true
agree-same true m e = sym e
agree-same false true e = absurd (cc)
agree-same false false e = refl

agree-other : (b m : Bool) → b ≢ m → (if b then m else not m) ≡ false
agree-other true true n = absurd (n refl)
agree-other true false n = refl
agree-other false true n = refl
agree-other false false n = absurd (n refl)

next_meant_at : (f : ℕ → Bool) (ms : List Bool) (k i : ℕ) (d : Bool) → i < length ms → f k ≡ get_or ms i d → unmeant f (drop i ms) k ≡ unmeant f (drop (suc i) ms) (k + 1)
next_meant_at f [] k i d lt e = absurd (omega arith)
next_meant_at f (m ∷ ms) k zero d lt e = rw (agree-same (f k) m e) refl
next_meant_at f (m ∷ ms) k (suc i) d lt e = next_meant_at f ms k i d (omega arith) e

-- The site at index i is as it is meant.
pub next_meant : (f : ℕ → Bool) (ms : List Bool) (k i : ℕ) (d : Bool) → i < length ms → f k ≡ get_or ms i d → unmeant f (drop i ms) k ≡ unmeant f (drop (i + 1) ms) (k + 1)
next_meant f ms k i d lt e = rw (add-one i) (next_meant_at f ms k i d lt e)

-- The site at index i isn't as it is meant.
pub this_meant : (f : ℕ → Bool) (ms : List Bool) (k i : ℕ) (d : Bool) → i < length ms → f k ≢ get_or ms i d → unmeant f (drop i ms) k ≡ Some (Unmeant k (f k))
this_meant f [] k i d lt n = absurd (omega arith)
this_meant f (m ∷ ms) k zero d lt n = rw (agree-other (f k) m n) refl
this_meant f (m ∷ ms) k (suc i) d lt n = this_meant f ms k i d (omega arith) n

-- The scan finds the same if both functions agree on the sites.
unmeant-same : (f g : ℕ → Bool) (ms : List Bool) (k : ℕ) → ((i : ℕ) → i < length ms → f (k + i) ≡ g (k + i)) → unmeant f ms k ≡ unmeant g ms k
unmeant-same f g [] k same = refl
unmeant-same f g (m ∷ ms) k same = let e : k + 0 ≡ k = omega arith in let z : f k ≡ g k = ap f (sym e) ∙ (same 0 (omega arith) ∙ ap g e) in
    let r = unmeant-same f g ms (k + 1) (λ i lt. let e' : k + suc i ≡ k + 1 + i = omega arith in ap f (sym e') ∙ (same (suc i) (omega arith) ∙ ap g e')) in
    ap (λ (q : Bool × Option Why). if (if q.0 then m else not m) then q.1 else Some (Unmeant k q.0)) (λ i. (z i, r i))

-- If the scan finds nothing, each site is as it is meant.
unmeant-none : (f : ℕ → Bool) (ms : List Bool) (k i : ℕ) → unmeant f ms k ≡ None → i < length ms → f (k + i) ≡ get_or ms i false
unmeant-none f [] k i e lt = absurd (omega arith)
unmeant-none f (m ∷ ms) k i e lt = first (if f k then m else not m) refl e (λ e' j l. unmeant-none f ms (k + 1) j e' l) i lt
  where
    first : (b : Bool) → (if f k then m else not m) ≡ b → (if b then unmeant f ms (k + 1) else Some (Unmeant k (f k))) ≡ None → (unmeant f ms (k + 1) ≡ None → (j : ℕ) → j < length ms → f (k + 1 + j) ≡ get_or ms j false) → (j : ℕ) → j < suc (length ms) → f (k + j) ≡ get_or (m ∷ ms) j false
    first false q x again j l = absurd (cc)
    first true q x again zero l = let e' : k + 0 ≡ k = omega arith in ap f e' ∙ agree-true (f k) m q
    first true q x again (suc j) l = let e' : k + suc j ≡ k + 1 + j = omega arith in ap f e' ∙ again x j (omega arith)

none_unmeant : (f : ℕ → Bool) (ms : List Bool) (k : ℕ) → ((i : ℕ) → i < length ms → f (k + i) ≡ get_or ms i false) → unmeant f ms k ≡ None
none_unmeant f [] k same = refl
none_unmeant f (m ∷ ms) k same = let e : k + 0 ≡ k = omega arith in let z : f k ≡ m = ap f (sym e) ∙ same 0 (omega arith) in rw (agree-same (f k) m z) (none_unmeant f ms (k + 1) (λ i lt. let e' : k + suc i ≡ k + 1 + i = omega arith in ap f (sym e') ∙ same (suc i) (omega arith)))

none_lacks : (o : Option ℕ) (w : Option Why) → first_cause (option_map {T = ℕ} {U = Why} Unfinished o ∷ w ∷ []) ≡ None → (o ≡ None) × (w ≡ None)
none_lacks None None e = (refl, refl)
none_lacks None (Some w) e = absurd (cc)
none_lacks (Some s) w e = absurd (cc)

none_reported : (k : ℕ) (w : Option Why) → option_map {T = Why} {U = Fault} (λ why. record { place = k; why = why }) w ≡ None → w ≡ None
none_reported k None e = refl
none_reported k (Some w) e = absurd (cc)

none_first : (a b : Option Fault) → first_cause (a ∷ b ∷ []) ≡ None → (a ≡ None) × (b ≡ None)
none_first None None e = (refl, refl)
none_first None (Some f) e = absurd (cc)
none_first (Some f) b e = absurd (cc)

-- If there is no fault, the list is complete.
pub complete : (p : Plan) → IsPlan p → (meant : List Bool) (es : List Entry) → length meant ≡ site_count p → first_fault_of p meant es ≡ None → IsComplete p meant es
complete p plan meant es size e =
    let both = none_first (refused_from p (first_state p) es 0) (lacking meant es (replay p es)) e in
    let r = none_refused p (first_state p) es 0 both.0 in
    let fits = legal_position p plan es r.0 r.1 in
    let end : lacking meant es (Ok r.0) ≡ None = ap (lacking meant es) (sym r.1) ∙ both.1 in
    let lacks_none = none_lacks (unfinished r.0.rows 1) (unmeant (has_register es) meant 1) (none_reported (length es) (lacks meant (has_register es) r.0) end) in (
      r.0,
      r.1,
      λ s is. let low = is.0 in let high = is.1 in all_gone r.0.rows 1 (s - 1) blank lacks_none.0 (let z = fits.rows in omega arith),
      λ s is. let low = is.0 in let high = is.1 in let e' : 1 + (s - 1) ≡ s = omega arith in ap (has_register es) (sym e') ∙ unmeant-none (has_register es) meant 1 (s - 1) lacks_none.1 (omega arith),
    )

-- A complete list has no fault.
pub first_fault_of-complete : (p : Plan) → IsPlan p → (meant : List Bool) (es : List Entry) → length meant ≡ site_count p → IsComplete p meant es → first_fault_of p meant es ≡ None
first_fault_of-complete p plan meant es size is =
    let fits = legal_position p plan es is.0 is.1 in
    let a = refused_from-none p (first_state p) is.0 es 0 is.1 in
    let gone : unfinished is.0.rows 1 ≡ None = none_unfinished is.0.rows 1 blank (λ i lt. let same : i + 1 - 1 ≡ i = omega arith in ap (λ (j : ℕ). (get_or is.0.rows j blank).stage) (sym same) ∙ is.2 (i + 1) (omega arith, let z = fits.rows in omega arith)) in
    let same : unmeant (has_register es) meant 1 ≡ None = none_unmeant (has_register es) meant 1 (λ i lt. let e' : 1 + i - 1 ≡ i = omega arith in is.3 (1 + i) (omega arith, omega arith) ∙ ap (λ (j : ℕ). get_or meant j false) e') in
    let b : lacking meant es (replay p es) ≡ None = ap (lacking meant es) is.1 ∙ ap (λ (q : Option ℕ × Option Why). option_map {T = Why} {U = Fault} (λ why. record { place = length es; why = why }) (first_cause (option_map {T = ℕ} {U = Why} Unfinished q.0 ∷ q.1 ∷ []))) (λ i. (gone i, same i)) in
    ap (λ (q : Option Fault × Option Fault). first_cause (q.0 ∷ q.1 ∷ [])) (λ i. (a i, b i))

-- The scan finds no fault iff the list is complete.
pub none-complete : (p : Plan) → IsPlan p → (meant : List Bool) (es : List Entry) → length meant ≡ site_count p → (f : Option Fault) → f ≡ first_fault_of p meant es → (f ≡ None) ↔ IsComplete p meant es
none-complete p plan meant es size f is = (λ e. complete p plan meant es size (sym is ∙ e), λ all. is ∙ first_fault_of-complete p plan meant es size all)

-- What a board that admitted the whole list lacks follows from the homes of its sites.
pub lacks-homes : (p : Plan) → IsPlan p → (meant : List Bool) (es : List Entry) (t : TableState) → length meant ≡ site_count p → Reaches p es t → lacks meant (λ s. is_some (row t s).home) t ≡ lacks meant (has_register es) t
lacks-homes p plan meant es t size is = ap (λ (w : Option Why). first_cause (option_map {T = ℕ} {U = Why} Unfinished (unfinished t.rows 1) ∷ w ∷ []))
    (unmeant-same (λ s. is_some (row t s).home) (has_register es) meant 1 (λ i lt. sym (registered-home p plan es t is (1 + i) (omega arith, omega arith))))

only-cause : {A : Type 0} (o : Option A) → first_cause (o ∷ []) ≡ o
only-cause None = refl
only-cause (Some a) = refl

-- If no entry is refused, what the board finds is the list's first fault.
pub found-fault : (p : Plan) → IsPlan p → (meant : List Bool) (es : List Entry) (t : TableState) (r : Option Fault) → length meant ≡ site_count p → refused_from p (first_state p) es 0 ≡ None → Reaches p es t
    → r ≡ option_map {T = Why} {U = Fault} (λ why. record { place = length es; why = why }) (lacks meant (λ s. is_some (row t s).home) t) → r ≡ first_fault_of p meant es
found-fault p plan meant es t r size none leads is =
    let e : r ≡ lacking meant es (replay p es) = is ∙ (ap (option_map {T = Why} {U = Fault} (λ why. record { place = length es; why = why })) (lacks-homes p plan meant es t size leads) ∙ ap (lacking meant es) (sym leads)) in
    e ∙ (sym (only-cause (lacking meant es (replay p es))) ∙ ap (λ (a : Option Fault). first_cause (a ∷ lacking meant es (replay p es) ∷ [])) (sym none))

-- The first entry that a board refuses is the list's first fault.
pub found-refusal : (p : Plan) (meant : List Bool) (es : List Entry) (f : Fault) → refused_from p (first_state p) es 0 ≡ Some f → Some f ≡ first_fault_of p meant es
found-refusal p meant es f is = ap (λ (a : Option Fault). first_cause (a ∷ lacking meant es (replay p es) ∷ [])) (sym is)

beq-same : (b m : Bool) → not (beq b m) ≡ false → b ≡ m
beq-same true true e = refl
beq-same true false e = absurd (cc)
beq-same false true e = absurd (cc)
beq-same false false e = refl

beq-other : (b m : Bool) → not (beq b m) ≡ true → b ≢ m
beq-other true true e = absurd (cc)
beq-other true false e = λ z. cc
beq-other false true e = λ z. cc
beq-other false false e = absurd (cc)

-- One step of the scan, as in the code.
pub meant-goes : (f : ℕ → Bool) (ms : List Bool) (i : ℕ) (b m : Bool) → i < length ms → not (beq b m) ≡ false → b ≡ f (i + 1) → m ≡ get_or ms i false → unmeant f (drop i ms) (i + 1) ≡ unmeant f (drop (i + 1) ms) (i + 1 + 1)
meant-goes f ms i b m lt test here there = next_meant f ms (i + 1) i false lt (sym here ∙ (beq-same b m test ∙ there))

pub meant-stops : (f : ℕ → Bool) (ms : List Bool) (i : ℕ) (b m : Bool) → i < length ms → not (beq b m) ≡ true → b ≡ f (i + 1) → m ≡ get_or ms i false → unmeant f (drop i ms) (i + 1) ≡ Some (Unmeant (i + 1) b)
meant-stops f ms i b m lt test here there = this_meant f ms (i + 1) i false lt (λ z. beq-other b m test (here ∙ (z ∙ sym there))) ∙ ap (λ (q : Bool). Some (Unmeant (i + 1) q)) (sym here)
