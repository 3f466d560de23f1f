use Rattle.loop_team.proofs.HandLemmas.{later_enters}
use Rattle.loop_team.proofs.hand.TeamHandScheduler.enter.Goals as goal

pub returns-in-Some-turn-clause-does : goal.returns-in-Some-turn-clause-does
returns-in-Some-turn-clause-does g c = later_enters c.args.self.now c.loop.self c.turn.new.self c.in-Some-turn.next c.loop.invariant c.in-Some-turn.ensures
