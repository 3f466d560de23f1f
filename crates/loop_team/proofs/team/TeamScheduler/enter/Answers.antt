use Rattle.std.proofs.Common.{map}
use Rattle.step_eval.specs.declared.work.Work.TheVariants.{Begin}
use Rattle.loop_team.proofs.TeamLemmas.{next_in_order}
use Rattle.loop_team.proofs.team.TeamScheduler.enter.Goals as goal

pub invariant_of-self : goal.invariant_of-self
invariant_of-self c = record {
  fit = c.self.invariant.fit;
  reached = c.self.invariant.reached;
  running = c.self.invariant.running;
  in_order = next_in_order (map Begin c.self.inside.barrier.jobs) c.self.inside.agenda c.take_next.new.self c.take_next.result c.take_next.ensures c.self.invariant.in_order;
}
