-- Callbacks as values.
use Rattle.std.specs.Prelude.{ℕ}
use Rattle.sched_api.specs.declared.hearing.Call.{Call}
use Rattle.sched_api.specs.declared.hearing.Call.TheVariants.{Registered, Unregistered, Requested, Yielded, Blocked}
use Rattle.sched_api.specs.declared.hearing.Told.{Told}
use Rattle.sched_api.specs.Calls.{registered_told, unregistered_told, requested_told, yielded_told, blocked_told}

-- The callback with these arguments.
abbrev pub callback_with : Call → ℕ → ℕ → Told
callback_with Registered child count = registered_told child
callback_with Unregistered child count = unregistered_told child
callback_with Requested child count = requested_told child count
callback_with Yielded child count = yielded_told child
callback_with Blocked child count = blocked_told
