use Rattle.turn_sched.proofs.Rounds.{turns_go_round}
use Rattle.turn_sched.proofs.laws.turns_go_round.Goals as goal

pub returns : goal.returns
returns g c = turns_go_round g.row.C.Denot
