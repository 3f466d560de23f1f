use Rattle.forkjoin_sched.proofs.PhaseBooks.{pools_give_constructs}
use Rattle.forkjoin_sched.proofs.laws.pools_give_constructs.Goals as goal

pub returns : goal.returns
returns c = pools_give_constructs
