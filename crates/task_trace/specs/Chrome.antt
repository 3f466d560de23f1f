-- The calls of a serializer that write a trace.
use Rattle.std.specs.Prelude.{◌≡◌, ◌+◌, ℕ, List, [], ◌∷◌, ◌++◌, None, Some, Float, codes, pos, ⊤}
use lib.Ieee.{binary64, div, of_int}
use Rattle.serde.specs.Event as serde
use Rattle.serde.specs.Event.{Log, field_key, text, double, unsigned, map_begins, map_ends, seq_begins, seq_ends}
use Rattle.serde.specs.declared.name.Case.TheVariants.{AsIs}
use Rattle.std.specs.declared.alloc.Global.{Global}
use Rattle.std.specs.declared.vec.Vec.{Vec}
use Rattle.task_trace.specs.declared.event.Event.{Event}
use Rattle.task_trace.specs.declared.event.Event.TheVariants.{Begin, End}

-- A member with a text.
abbrev pub text_member : List ℕ → List ℕ → List serde.Event
text_member key value = field_key key AsIs ∷ text value ∷ []

-- A member with a number.
abbrev pub number_member : List ℕ → ℕ → List serde.Event
number_member key value = field_key key AsIs ∷ unsigned value ∷ []

-- Nanoseconds in microseconds, the nearest double.
abbrev pub micros : ℕ → Float
micros nanos = div binary64 (of_int binary64 (pos nanos)) (of_int binary64 (pos 1000))

-- The members that the begin and the end of a task share. A viewer takes the hart for a thread.
abbrev pub common_members : List ℕ → ℕ → ℕ → List serde.Event
common_members kind nanos hart =
    map_begins None ∷ text_member (codes "name") (codes "task") ++ text_member (codes "ph") kind
    ++ (field_key (codes "ts") AsIs ∷ double (micros nanos) ∷ [])
    ++ number_member (codes "pid") 0 ++ number_member (codes "tid") hart

-- An event of a hart.
abbrev pub event_members : ℕ → Event → List serde.Event
event_members hart (Begin site nanos) =
    common_members (codes "B") nanos hart
    ++ (field_key (codes "args") AsIs ∷ map_begins None ∷ number_member (codes "site") site ++ map_ends ∷ map_ends ∷ [])
event_members hart (End nanos) = common_members (codes "E") nanos hart ++ map_ends ∷ []

-- The events of a hart, in order.
abbrev pub hart_members : ℕ → List Event → List serde.Event
hart_members hart [] = []
hart_members hart (event ∷ events) = event_members hart event ++ hart_members hart events

-- The events of harts, of which the first has this number.
abbrev pub members_from : ℕ → List (Vec Event Global) → List serde.Event
members_from hart [] = []
members_from hart (events ∷ harts) = hart_members hart events.items ++ members_from (hart + 1) harts

-- A trace.
abbrev pub trace_members : List (Vec Event Global) → List serde.Event
trace_members harts =
    map_begins None ∷ field_key (codes "traceEvents") AsIs ∷ seq_begins None ∷ members_from 0 harts
    ++ (seq_ends ∷ text_member (codes "displayTimeUnit") (codes "ns") ++ map_ends ∷ [])

-- If the calls so far are known, these calls are appended.
abbrev pub Grows : Log → Log → List serde.Event → Type 0
Grows None new calls = ⊤
Grows (Some old) new calls = new ≡ Some (old ++ calls)
