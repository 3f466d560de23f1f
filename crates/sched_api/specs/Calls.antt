-- The results of the calls that move a hart.
use Rattle.std.specs.Prelude.{◌≡◌, ◌≢◌, ℕ, true, false, Result, Ok, Err}
use Rattle.hart_port.specs.Count.{Rose}
use Rattle.hart_port.specs.PortView.{PortView, Registers, entered}
use Rattle.hart_port.specs.Words.{is_wanted}
use Rattle.hart_port.specs.declared.port.Taken.{Taken}
use Rattle.hart_port.specs.declared.port.Entered.{Entered}
use Rattle.hart_port.specs.declared.port.Entered.TheVariants as tried
use Rattle.sched_api.specs.declared.hearing.Told.{Told}
use Rattle.sched_api.specs.declared.hearing.Call.TheVariants.{Registered, Unregistered, Requested, Yielded, Blocked}
use Rattle.sched_api.specs.declared.scheduler.Next.{Next}
use Rattle.sched_api.specs.declared.scheduler.Lent.{Lent}
use Rattle.sched_api.specs.declared.scheduler.Lent.TheVariants.{Inside, NotWanted, Moved}

-- The callback that each call makes.
abbrev pub registered_told : ℕ → Told
registered_told child = record { call = Registered; child = child; count = 0 }

-- The callback of an unregister.
abbrev pub unregistered_told : ℕ → Told
unregistered_told child = record { call = Unregistered; child = child; count = 0 }

-- The callback of a request for count harts.
abbrev pub requested_told : ℕ → ℕ → Told
requested_told child count = record { call = Requested; child = child; count = count }

-- The callback of a yield.
abbrev pub yielded_told : ℕ → Told
yielded_told child = record { call = Yielded; child = child; count = 0 }

-- The callback of a wait at a mutex.
abbrev pub blocked_told : Told
blocked_told = record { call = Blocked; child = 0; count = 0 }

-- A register with a parent: the port made the register and called the parent's callback, or the port refused it and the parent
-- is unchanged. A port that shares the table with no other hart refuses only a site that it registered.
abbrev pub IsHeard : {S H : Type 0} → (H → Told) → (S → Told → S → Type 0) → ℕ → PortView → S
    → Result H Taken → PortView → S → Type 0
IsHeard told hears child view parent (Ok heard) view' parent' =
    Registers view child (Ok tt) view' × (told heard ≡ registered_told child)
    × hears parent (registered_told child) parent'
IsHeard told hears child view parent (Err taken) view' parent' =
    Registers view child (Err taken) view' × (parent' ≡ parent)

-- A try to enter a child: the hart is inside and the child returned its next action, or the port refused and the child is
-- unchanged.
abbrev pub Lends : {S C : Type 0} → (S → Next C → S → Type 0) → ℕ → PortView → S → Lent C
    → PortView → S → Type 0
Lends answers site view child (Inside next) view' child' =
    (view' ≡ entered view site) × answers child next child'
Lends answers site view child (NotWanted shown) view' child' =
    (view' ≡ view) × (is_wanted shown ≡ false) × (child' ≡ child)
Lends answers site view child (Moved read found) view' child' =
    (view' ≡ view) × (is_wanted read ≡ true) × (read ≢ found) × (child' ≡ child)

-- The result of the register alone, without the receipt.
abbrev pub claim_of : {H : Type 0} → Result H Taken → Result (Unit {0}) Taken
claim_of (Ok heard) = Ok tt
claim_of (Err taken) = Err taken

-- The result of the try to enter alone, without the child's next action.
abbrev pub try_of : {C : Type 0} → Lent C → Entered
try_of (Inside next) = tried.Inside
try_of (NotWanted shown) = tried.NotWanted shown
try_of (Moved read found) = tried.Moved read found

-- After a try to enter a child, the port's count of refusals rose unless the hart is inside.
abbrev pub RoseUnlessLent : {C : Type 0} → Lent C → ℕ → ℕ → Type 0
RoseUnlessLent (Inside next) before after = after ≡ before
RoseUnlessLent (NotWanted shown) before after = Rose before after
RoseUnlessLent (Moved read found) before after = Rose before after
