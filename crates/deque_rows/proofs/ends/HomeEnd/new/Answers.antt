use Rattle.deque_rows.proofs.Moves.{begins}
use Rattle.deque_rows.proofs.ends.HomeEnd.new.Goals as goal

pub lifo_as-requires : goal.lifo_as-requires
lifo_as-requires c = begins
