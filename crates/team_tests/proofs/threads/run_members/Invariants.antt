use Rattle.loop_team.specs.Hands.{IsSameHand}
use Rattle.team_tests.proofs.threads.run_members.Given as goal

abbrev pub invariant-loop : goal.invariant-loop
invariant-loop g l = IsSameHand l.initial.hand l.hand
