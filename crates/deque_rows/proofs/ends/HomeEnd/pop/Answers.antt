use Rattle.deque_rows.proofs.Moves.{pops}
use Rattle.deque_rows.proofs.ends.HomeEnd.pop.Goals as goal

pub pop_as-requires-clause-lifo : goal.pop_as-requires-clause-lifo
pop_as-requires-clause-lifo c = λ lifo. pops _ _ c.args.self.now.home c.args.self.now.has_part
