use Rattle.turn_sched.proofs.Rounds.{contexts_go_in_order}
use Rattle.turn_sched.proofs.laws.contexts_go_in_order.Goals as goal

pub returns : goal.returns
returns g c = contexts_go_in_order g.row.C.Denot
