-- In each run of calls, turns go round and contexts go in their order.
use Rattle.std.proofs.Common.{◌≡◌, ℕ, ◌+◌, ◌≤◌, true, List, [], ◌∷◌, ◌++◌, refl, sym, ap, subst, ◌∙◌, arith, append_assoc, Ok, Err}
use Rattle.std.specs.List.{All}
use Rattle.std.proofs.lemmas.List.{append-nil}
use Rattle.std.proofs.lemmas.List.Elements.{All-head, All-tail}
use Rattle.sched_api.specs.declared.scheduler.Next.TheVariants.{Run, Lend, Nothing}
use Rattle.turn_sched.specs.declared.ring.Place.{Place}
use Rattle.turn_sched.specs.Ring.{has_place}
use Rattle.turn_sched.specs.Turns.{TurnsState}
use Rattle.turn_sched.specs.Rounds.{Event, Enter, Hear, Put, Does, Runs, Ends, Goes, lent_by, lent_in, ahead_of, PassesOver, TurnsGoRound, run_by, kept_by, run_in, kept_in, ContextsGoInOrder}
use Rattle.turn_sched.proofs.Rings.{weigh, weigh-append, is_it, often_weighs, length_weighs, children, ahead-children, Keeps, keeps_same, hear_keeps, turn_keeps, HasOneEach, hear_one, turn_one}

-- One call that passes over the child: the child keeps its place, and the children lent to are no longer ahead of it.
record Passes {C : Type 0} (x : ℕ) (before : List Place) (event : Event C) (after : List Place) : Type 0 where
  has : has_place x after ≡ true
  ahead : (f : ℕ → ℕ) → weigh f (lent_by event) + weigh f (ahead_of x after) ≤ weigh f (ahead_of x before)

passes_same : {C : Type 0} (x : ℕ) (event : Event C) (ps qs : List Place) → lent_by event ≡ [] → Keeps x ps qs → Passes x ps event qs
passes_same x event ps qs none keeps = record { has = keeps.has; ahead = λ f. (let e = ap (weigh f) none in let k = keeps.ahead f in omega (arith, e, k)) }

abbrev places : {C : Type 0} → TurnsState C → List Place
places t = t.ring.places

passes : {C : Type 0} (x : ℕ) (before next : TurnsState C) (event : Event C) → Does before event next → has_place x (places before) ≡ true → PassesOver x event →
    Passes x (places before) event (places next)
passes x before next (Enter (Run c)) does has over = passes_same x _ _ _ refl (keeps_same x _ _ has (sym (ap places does)))
passes x before next (Enter (Lend child)) does has over =
    let turn = turn_keeps x child (places before) (places next) has does.1 over in
    record { has = turn.0; ahead = λ f. (let t = turn.1 f in omega (arith, t)) }
passes x before next (Enter Nothing) does has over = passes_same x _ _ _ refl (keeps_same x _ _ has (ap places does.2))
passes x before next (Hear told) does has over =
    passes_same x _ _ _ refl (subst (λ (ps : List Place). Keeps x (places before) ps) (sym (ap places does)) (hear_keeps x told.child told.count told.call before.ring has over))
passes x before next (Put c (Ok done)) does has over = passes_same x _ _ _ refl (keeps_same x _ _ has (ap places does.1))
passes x before next (Put c (Err back)) does has over = passes_same x _ _ _ refl (keeps_same x _ _ has (ap places does.2))

-- The children lent to in a run that passes over the child were ahead of it, each once.
lent_were_ahead : {C : Type 0} (x : ℕ) (f : ℕ → ℕ) (before after : TurnsState C) (events : List (Event C)) → Runs C before events after →
    has_place x (places before) ≡ true → All (PassesOver x) events → weigh f (lent_in events) ≤ weigh f (ahead_of x (places before))
lent_were_ahead x f before after _ (Ends m) has over = omega arith
lent_were_ahead x f before after _ (Goes b next a event rest does runs) has over =
    let here = passes x b next event does has (All-head (PassesOver x) event rest over) in
    let later = lent_were_ahead x f next a rest runs here.has (All-tail (PassesOver x) event rest over) in
    let sum = weigh-append f (lent_by event) (lent_in rest) in let now = here.ahead f in
    omega (arith, later, sum, now)

-- Each child has one place after any call.
one_after : {C : Type 0} (before next : TurnsState C) (event : Event C) → Does before event next → HasOneEach (places before) → HasOneEach (places next)
one_after before next (Enter (Run c)) does one = subst HasOneEach (ap places does) one
one_after before next (Enter (Lend child)) does one = turn_one child (places before) (places next) does.1 one
one_after before next (Enter Nothing) does one = subst HasOneEach (sym (ap places does.2)) one
one_after before next (Hear told) does one = subst HasOneEach (sym (ap places does)) (hear_one told.child told.count told.call before.ring one)
one_after before next (Put c (Ok done)) does one = subst HasOneEach (sym (ap places does.1)) one
one_after before next (Put c (Err back)) does one = subst HasOneEach (sym (ap places does.2)) one

one_in : {C : Type 0} (before after : TurnsState C) (events : List (Event C)) → Runs C before events after → HasOneEach (places before) → HasOneEach (places after)
one_in before after _ (Ends m) one = one
one_in before after _ (Goes b next a event rest does runs) one = one_in next a rest runs (one_after b next event does one)

pub turns_go_round : (C : Type 0) → TurnsGoRound C
turns_go_round C site room some earlier events before after first later x has over = (
  λ other.
      (let lent = lent_were_ahead x (is_it other) before after events later has over in
      let all = ahead-children (is_it other) x (places before) in
      let one = one_in _ before earlier first (λ c. omega arith) other in
      let a = often_weighs other (lent_in events) in let b = often_weighs other (children (places before)) in
      omega (arith, lent, all, one, a, b)),
  (let lent = lent_were_ahead x (λ c. 1) before after events later has over in
      let a = length_weighs (lent_in events) in let b = length_weighs (ahead_of x (places before)) in
      omega (arith, lent, a, b)),
)

goes_first : {C : Type 0} (before next : TurnsState C) (event : Event C) (kept run left : List C) → Does before event next →
    next.ready ++ kept ≡ run ++ left → before.ready ++ (kept_by event ++ kept) ≡ (run_by event ++ run) ++ left
goes_first {C} before next (Enter (Run c)) kept run left does same = ap (λ (t : TurnsState C). t.ready ++ kept) does ∙ ap (λ (cs : List C). c ∷ cs) same
goes_first before next (Enter (Lend child)) kept run left does same = ap (λ t. t.ready ++ kept) (sym does.2) ∙ same
goes_first before next (Enter Nothing) kept run left does same = ap (λ t. t.ready ++ kept) (sym does.2) ∙ same
goes_first before next (Hear told) kept run left does same = ap (λ t. t.ready ++ kept) (sym does) ∙ same
goes_first before next (Put c (Ok done)) kept run left does same =
    sym (append_assoc before.ready (c ∷ []) kept) ∙ ap (λ t. t.ready ++ kept) (sym does.1) ∙ same
goes_first before next (Put c (Err back)) kept run left does same = ap (λ t. t.ready ++ kept) (sym does.2) ∙ same

pub contexts_go_in_order : (C : Type 0) → ContextsGoInOrder C
contexts_go_in_order C before after _ (Ends m) = append-nil m.ready
contexts_go_in_order C before after _ (Goes b next a event rest does runs) =
    goes_first b next event (kept_in rest) (run_in rest) a.ready does (contexts_go_in_order C next a rest runs)
