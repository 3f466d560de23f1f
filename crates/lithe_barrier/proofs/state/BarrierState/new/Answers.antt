use Rattle.lithe_barrier.proofs.BarrierLemmas.{waits_first}
use Rattle.lithe_barrier.proofs.state.BarrierState.new.Goals as goal

pub invariant_of-result : goal.invariant_of-result
invariant_of-result c = waits_first c.args.jobs.items c.in_ok-book.book c.in_ok-room.room c.requires c.in_ok-book.ensures c.in_ok-room.ensures
