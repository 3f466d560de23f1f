use Rattle.forkjoin_sched.proofs.PhaseBooks.{books_give_phases}
use Rattle.forkjoin_sched.proofs.laws.books_give_phases.Goals as goal

pub returns : goal.returns
returns c = books_give_phases
