use Rattle.deque_rows.proofs.Moves.{merges}
use Rattle.deque_rows.proofs.ends.HomeEnd.absorb.Goals as goal

pub absorb-requires-clause-rule : goal.absorb-requires-clause-rule
absorb-requires-clause-rule c = merges _ _ _ _ c.args.self.now.has_part
