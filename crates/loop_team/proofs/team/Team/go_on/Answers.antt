use Rattle.std.proofs.Common.{◌+◌, map, sym, ap, ◌∙◌, subst}
use Rattle.step_eval.specs.Nests.{nested_of}
use Rattle.step_eval.specs.Inside.Computed.{HasReached}
use Rattle.join_book.specs.Books.{BookParts, IsFull}
use Rattle.step_eval.specs.declared.work.Work.TheVariants.{Begin}
use Rattle.loop_team.specs.Teams.{TeamParts, AreJobsIn, IsPhase}
use Rattle.loop_team.proofs.team.Team.go_on.Goals as goal

pub invariant_of-self : goal.invariant_of-self
invariant_of-self c = record {
  fit = c.self.invariant.fit;
  reached = c.lay_phase.ensures;
  running = λ place at. absurd (subst (λ (t : TeamParts). IsFull t.barrier) (sym c.self.view_is) c.requires.full place at);
  in_order = c.self.invariant.in_order;
}

pub invariant_of-self-in-Ok : goal.invariant_of-self-in-Ok
invariant_of-self-in-Ok c =
    let is : IsPhase c.self.inside.nested (c.self.inside.opened + 1) c.in-Ok.field-0 = c.in-Ok.ensures.phase in
    let barrier = c.replace.ensures.after in
    record {
      fit = c.self.invariant.fit;
      reached = subst (λ store. HasReached (nested_of c.self.inside.nested) (c.self.inside.opened + 1) store) (sym c.phase_of.ensures.same) c.lay_phase.ensures;
      running = λ place at. subst (λ (b : BookParts). AreJobsIn c.self.inside.nested (c.self.inside.opened + 1) b.jobs) (sym barrier) is.jobs;
      in_order = (0, ap (λ a. a.unbegun) c.begin.ensures ∙ is.unbegun ∙ ap (λ (b : BookParts). map Begin b.jobs) (sym barrier));
    }

pub invariant_of-self-in-Err : goal.invariant_of-self-in-Err
invariant_of-self-in-Err c = record {
  fit = c.self.invariant.fit;
  reached = subst (λ store. HasReached (nested_of c.self.inside.nested) (c.self.inside.opened + 1) store) (sym c.phase_of.ensures.same) c.lay_phase.ensures;
  running = λ place at. absurd (subst (λ (t : TeamParts). IsFull t.barrier) (sym c.self.view_is) c.requires.full place at);
  in_order = c.self.invariant.in_order;
}
