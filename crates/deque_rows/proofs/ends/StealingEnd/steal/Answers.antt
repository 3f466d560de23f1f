use Rattle.deque_rows.proofs.Moves.{takes}
use Rattle.deque_rows.proofs.ends.StealingEnd.steal.Goals as goal

pub steal_as-requires-clause-takes : goal.steal_as-requires-clause-takes
steal_as-requires-clause-takes g c = takes _ _ c.tries.self.has_part
