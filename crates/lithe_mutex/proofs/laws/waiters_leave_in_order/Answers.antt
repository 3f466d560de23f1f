use Rattle.lithe_mutex.proofs.OrderLemmas.{leave_in_order}
use Rattle.lithe_mutex.proofs.laws.waiters_leave_in_order.Goals as goal

pub returns : goal.returns
returns g c = leave_in_order g.row.T.Denot g.row.C.Denot
