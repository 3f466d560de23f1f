use Rattle.pipe_sched.specs.Hands.{AnswersHand}
use Rattle.pipe_sched.proofs.hand.PipeHandScheduler.enter.Given as goal

abbrev pub invariant-loop : goal.invariant-loop
invariant-loop g l = AnswersHand l.fn.self l.next l.self
