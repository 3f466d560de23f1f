-- A journal is short, and the owners fit in 48 bits.
use Rattle.std.proofs.Common.{arith}
use Rattle.hart_port.proofs.Ledgers.{entries_few}
use Rattle.hart_port.proofs.ledger.Ledger.board_word.Goals as goal

pub overflow_mul-result : goal.overflow_mul-result
overflow_mul-result c = let few = entries_few _ c.self.invariant.ledger in omega arith

pub overflow_add-result : goal.overflow_add-result
overflow_add-result c = let few = entries_few _ c.self.invariant.ledger in omega arith
