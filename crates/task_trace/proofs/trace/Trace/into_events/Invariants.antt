use Rattle.std.proofs.Common.{◌≡◌, ◌+◌, length, All}
use Rattle.std.specs.Vec.Iter.{into_iter_len}
use Rattle.task_trace.specs.Nesting.{IsNested}
use Rattle.task_trace.proofs.trace.Trace.into_events.Given as goal

abbrev pub invariant-rows : goal.invariant-rows
invariant-rows l = All (λ events. IsNested events.items) l.harts.items
    × (length l.harts.items + into_iter_len l.rest ≡ length l.fn.self.rows.items)

abbrev pub decreases-rows : goal.decreases-rows
decreases-rows l = into_iter_len l.rest
