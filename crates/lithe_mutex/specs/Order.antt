-- Over any run of calls, waiting contexts leave in the order of arrival, and none is lost or doubled.
use Rattle.std.specs.Prelude.{◌≡◌, List, [], ◌∷◌, ◌++◌}
use Rattle.lithe_mutex.specs.declared.state.Acquired.{Acquired}
use Rattle.lithe_mutex.specs.declared.state.Acquired.TheVariants.{Got, Kept}
use Rattle.lithe_mutex.specs.declared.state.Released.{Released}
use Rattle.lithe_mutex.specs.declared.state.Released.TheVariants as released
use Rattle.lithe_mutex.specs.Mutex.{Possession, Free, Held, Acquires, Releases}

-- One call, with its result.
pub data Event (T C : Type 0) : Type 0 where
  Acquire : (c : C) (answer : Acquired T C) → Event T C
  Release : (value : T) (answer : Released T C) → Event T C

-- The call leads from one mutex to another.
abbrev pub Does : {T C : Type 0} → Possession T C → Event T C → Possession T C → Type 0
Does before (Acquire c answer) after = Acquires before c answer after
Does before (Release value answer) after = Releases before value answer after

-- A run of calls that leads from one mutex to another.
pub data Runs (T C : Type 0) : Possession T C → List (Event T C) → Possession T C → Type 0 where
  Ends : (mutex : Possession T C) → Runs T C mutex [] mutex
  Goes : (before next after : Possession T C) (event : Event T C) (events : List (Event T C)) →
      Does before event next → Runs T C next events after → Runs T C before (event ∷ events) after

-- The contexts that wait at a mutex.
abbrev pub waiting_at : {T C : Type 0} → Possession T C → List C
waiting_at (Free value) = []
waiting_at (Held waiting) = waiting

-- The contexts that a call keeps.
abbrev pub kept_by : {T C : Type 0} → Event T C → List C
kept_by (Acquire c (Got value back)) = []
kept_by (Acquire c Kept) = c ∷ []
kept_by (Release value answer) = []

-- The contexts that a call hands the value to.
abbrev pub handed_by : {T C : Type 0} → Event T C → List C
handed_by (Acquire c answer) = []
handed_by (Release value released.Free) = []
handed_by (Release value (released.Handed given first)) = first ∷ []

-- The same of all calls of a run, in their order.
abbrev pub kept_in : {T C : Type 0} → List (Event T C) → List C
kept_in [] = []
kept_in (event ∷ events) = kept_by event ++ kept_in events

-- The contexts that the calls of a run hand the value to, in order.
abbrev pub handed_in : {T C : Type 0} → List (Event T C) → List C
handed_in [] = []
handed_in (event ∷ events) = handed_by event ++ handed_in events

-- The contexts that waited before and those that were kept, in this order, are those that were handed the value and those that
-- wait afterwards.
abbrev pub LeaveInOrder : (T C : Type 0) → Type 0
LeaveInOrder T C = (before after : Possession T C) (events : List (Event T C))
    → Runs T C before events after →
    waiting_at before ++ kept_in events ≡ handed_in events ++ waiting_at after
