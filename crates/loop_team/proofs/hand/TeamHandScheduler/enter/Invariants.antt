use Rattle.loop_team.specs.Hands.{HasGoneOn}
use Rattle.loop_team.proofs.hand.TeamHandScheduler.enter.Given as goal

abbrev pub invariant-loop : goal.invariant-loop
invariant-loop g l = HasGoneOn l.fn.self l.self
