use Rattle.std.proofs.Common.{map, subst, ap, ◌∙◌}
use Rattle.step_eval.specs.declared.work.Work.TheVariants.{Begin}
use Rattle.loop_team.proofs.TeamLemmas.{member_in_order, is_member, IsMember}
use Rattle.loop_team.proofs.team.Team.take_member.Goals as goal
use Rattle.loop_team.proofs.team.Team.take_member.Goals.{in-Some-Begin, in-None}

pub unreachable-requires : goal.unreachable-requires
unreachable-requires c =
    subst IsMember c.in-Some-Ready.field-0-is (is_member c.self.inside.barrier.jobs _ c.self.inside.agenda.unbegun _ c.in-Some-Ready.ensures.0 c.self.invariant.in_order)

pub invariant_of-self : goal.invariant_of-self
invariant_of-self c = record {
  fit = c.self.invariant.fit;
  reached = c.self.invariant.reached;
  running = c.self.invariant.running;
  in_order = elim c.match-take_unbegun.branch [
    | in-Some-Begin w ↦ member_in_order (map Begin c.self.inside.barrier.jobs) c.self.inside.agenda c.take_unbegun.new.self _ w.in-Some-Begin.ensures.0 c.self.invariant.in_order
    | in-None w ↦ (c.self.invariant.in_order.0, ap (λ a. a.unbegun) w.in-None.ensures.1 ∙ c.self.invariant.in_order.1)
  ];
}
