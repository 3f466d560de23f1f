-- Over any run of calls, turns go round and contexts keep their order.
use Rattle.std.specs.Prelude.{◌≡◌, ◌≢◌, ℕ, ◌+◌, ◌≤◌, ◌==◌, true, List, [], ◌∷◌, ◌++◌, length, if◌then◌else◌, Result, Ok, Err}
use Rattle.std.specs.List.{All}
use Rattle.sched_api.specs.declared.hearing.Told.{Told}
use Rattle.sched_api.specs.declared.hearing.Call.TheVariants.{Unregistered}
use Rattle.sched_api.specs.declared.scheduler.Next.{Next}
use Rattle.sched_api.specs.declared.scheduler.Next.TheVariants.{Run, Lend, Nothing}
use Rattle.turn_sched.specs.declared.ring.Place.{Place}
use Rattle.turn_sched.specs.Ring.{has_place}
use Rattle.turn_sched.specs.Turns.{TurnsState, new_turns, RunsOrLends, HearsOf, PutsLast}

-- One call with its result: `enter`, a callback, or `put_last`.
pub data Event (C : Type 0) : Type 0 where
  Enter : (next : Next C) → Event C
  Hear : (told : Told) → Event C
  Put : (c : C) (answer : Result (Unit {0}) C) → Event C

-- The call leads from one state to another.
abbrev pub Does : {C : Type 0} → TurnsState C → Event C → TurnsState C → Type 0
Does before (Enter next) after = RunsOrLends before next after
Does before (Hear told) after = HearsOf before told after
Does before (Put c answer) after = PutsLast before c answer after

-- A run of calls that leads from one state to another.
pub data Runs (C : Type 0) : TurnsState C → List (Event C) → TurnsState C → Type 0 where
  Ends : (state : TurnsState C) → Runs C state [] state
  Goes : (before next after : TurnsState C) (event : Event C) (events : List (Event C)) →
      Does before event next → Runs C next events after → Runs C before (event ∷ events) after

-- The child to which a call lends the hart.
abbrev pub lent_by : {C : Type 0} → Event C → List ℕ
lent_by (Enter (Run c)) = []
lent_by (Enter (Lend child)) = child ∷ []
lent_by (Enter Nothing) = []
lent_by (Hear told) = []
lent_by (Put c answer) = []

-- The children to which the calls of a run lend the hart, in order.
abbrev pub lent_in : {C : Type 0} → List (Event C) → List ℕ
lent_in [] = []
lent_in (event ∷ events) = lent_by event ++ lent_in events

-- The number of times that the child is in the list.
abbrev pub how_often : ℕ → List ℕ → ℕ
how_often child [] = 0
how_often child (c ∷ cs) = (if c == child then 1 else 0) + how_often child cs

-- The children whose turn comes before the child's.
abbrev pub ahead_of : ℕ → List Place → List ℕ
ahead_of child [] = []
ahead_of child (p ∷ ps) = if p.child == child then [] else p.child ∷ ahead_of child ps

-- A call that neither lends to the child nor is the child's unregister.
abbrev pub PassesOver : {C : Type 0} → ℕ → Event C → Type 0
PassesOver child (Enter (Run c)) = Unit {0}
PassesOver child (Enter (Lend other)) = other ≢ child
PassesOver child (Enter Nothing) = Unit {0}
PassesOver child (Hear told) = told.call ≡ Unregistered → told.child ≢ child
PassesOver child (Put c answer) = Unit {0}

-- While a child with a wish is passed over, no child is lent to twice, and at most as many as were ahead of it.
abbrev pub TurnsGoRound : (C : Type 0) → Type 0
TurnsGoRound C = (site room children : ℕ) (earlier events : List (Event C))
    (before after : TurnsState C) →
    Runs C (new_turns site room children) earlier before → Runs C before events after →
    (child : ℕ) → has_place child before.ring.places ≡ true → All (PassesOver child) events →
    ((other : ℕ) → how_often other (lent_in events) ≤ 1)
    × (length (lent_in events) ≤ length (ahead_of child before.ring.places))

-- The context that a call hands out.
abbrev pub run_by : {C : Type 0} → Event C → List C
run_by (Enter (Run c)) = c ∷ []
run_by (Enter (Lend child)) = []
run_by (Enter Nothing) = []
run_by (Hear told) = []
run_by (Put c answer) = []

-- The context that a call keeps.
abbrev pub kept_by : {C : Type 0} → Event C → List C
kept_by (Enter next) = []
kept_by (Hear told) = []
kept_by (Put c (Ok done)) = c ∷ []
kept_by (Put c (Err back)) = []

-- The contexts that the calls of a run hand out, in order.
abbrev pub run_in : {C : Type 0} → List (Event C) → List C
run_in [] = []
run_in (event ∷ events) = run_by event ++ run_in events

-- The contexts that the calls of a run keep, in order.
abbrev pub kept_in : {C : Type 0} → List (Event C) → List C
kept_in [] = []
kept_in (event ∷ events) = kept_by event ++ kept_in events

-- The contexts that were ready, followed by the contexts that were kept, are the contexts that were handed out, followed by
-- those that are ready afterwards.
abbrev pub ContextsGoInOrder : (C : Type 0) → Type 0
ContextsGoInOrder C = (before after : TurnsState C) (events : List (Event C))
    → Runs C before events after →
    before.ready ++ kept_in events ≡ run_in events ++ after.ready
