-- The results of the calls of a scheduler by turns.
use Rattle.std.specs.Prelude.{◌≡◌, ℕ, ◌<◌, ◌≤◌, List, [], ◌∷◌, ◌++◌, length, Result, Ok, Err}
use Rattle.sched_api.specs.declared.hearing.Told.{Told}
use Rattle.sched_api.specs.declared.hearing.Call.{Call}
use Rattle.sched_api.specs.declared.hearing.Call.TheVariants.{Registered, Unregistered, Requested, Yielded, Blocked}
use Rattle.sched_api.specs.declared.scheduler.Next.{Next}
use Rattle.sched_api.specs.declared.scheduler.Next.TheVariants.{Run, Lend, Nothing}
use Rattle.turn_sched.specs.Ring.{RingParts, with_wishes, without_child, TakesTurn}

-- The view that contracts have of the scheduler: its site, its contexts, the number of contexts for which there is room, and
-- the ring of its children.
pub record TurnsState (C : Type 0) : Type 0 where
  pub site : ℕ
  pub ready : List C
  pub room : ℕ
  pub ring : RingParts

-- The scheduler without contexts and wishes.
abbrev pub new_turns : {C : Type 0} → ℕ → ℕ → ℕ → TurnsState C
new_turns site room children = record {
  site = site;
  ready = [];
  room = room;
  ring = record { places = []; room = children };
}

-- One call of `enter`: the first context runs. If there is none, the hart is lent to the child whose turn it is.
abbrev pub RunsOrLends : {C : Type 0} → TurnsState C → Next C → TurnsState C → Type 0
RunsOrLends before (Run c) after = before ≡ record after { ready = c ∷ after.ready }
RunsOrLends before (Lend child) after =
    (before.ready ≡ []) × TakesTurn before.ring.places child after.ring.places
    × (after ≡ record before { ring = record before.ring { places = after.ring.places } })
RunsOrLends before Nothing after =
    (before.ready ≡ []) × (before.ring.places ≡ []) × (after ≡ before)

-- The ring after a callback: a request adds wishes, an unregister removes the child's place, and the others change nothing.
abbrev pub ring_by : Call → ℕ → ℕ → RingParts → RingParts
ring_by Registered child count ring = ring
ring_by Unregistered child count ring = without_child child ring
ring_by Requested child count ring = with_wishes child count ring
ring_by Yielded child count ring = ring
ring_by Blocked child count ring = ring

-- The ring after a callback of a receipt.
abbrev pub ring_after : Told → RingParts → RingParts
ring_after told ring = ring_by told.call told.child told.count ring

-- A callback changes the ring, and nothing else.
abbrev pub HearsOf : {C : Type 0} → TurnsState C → Told → TurnsState C → Type 0
HearsOf before told after = after ≡ record before { ring = ring_after told before.ring }

-- A context goes last. It is returned exactly if all room is filled.
abbrev pub PutsLast : {C : Type 0} → TurnsState C → C → Result (Unit {0}) C → TurnsState C → Type 0
PutsLast before c (Ok done) after =
    (length before.ready < before.room) × (after ≡ record before { ready = before.ready ++ c ∷ [] })
PutsLast before c (Err back) after =
    (before.room ≤ length before.ready) × (back ≡ c) × (after ≡ before)
