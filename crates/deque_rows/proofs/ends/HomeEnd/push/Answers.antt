use Rattle.deque_rows.proofs.Moves.{puts}
use Rattle.deque_rows.proofs.ends.HomeEnd.push.Goals as goal

pub push_as-requires-clause-pushes : goal.push_as-requires-clause-pushes
push_as-requires-clause-pushes c = puts _ _ _ c.args.self.now.home c.args.self.now.has_part
