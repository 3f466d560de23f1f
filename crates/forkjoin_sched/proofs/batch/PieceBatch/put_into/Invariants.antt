use Rattle.std.proofs.Common.{length}
use Rattle.forkjoin_sched.proofs.Handed.{HasPut}
use Rattle.forkjoin_sched.proofs.batch.PieceBatch.put_into.Given as goal

abbrev pub invariant-pieces : goal.invariant-pieces
invariant-pieces l = HasPut l.known l.fn.self l.fn.pool l.self l.pool

abbrev pub decreases-pieces : goal.decreases-pieces
decreases-pieces l = length l.self.pieces
