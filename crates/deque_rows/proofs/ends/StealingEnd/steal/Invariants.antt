use Rattle.std.proofs.Common.{◌≡◌}
use Rattle.crossbeam_deque.specs.Handles.{view}
use Rattle.deque_rows.proofs.ends.StealingEnd.steal.Given as goal

abbrev pub invariant-tries : goal.invariant-tries
invariant-tries g l = (view l.self.pass ≡ view l.fn.self.pass) × (l.self.stealer ≡ l.fn.self.stealer)
