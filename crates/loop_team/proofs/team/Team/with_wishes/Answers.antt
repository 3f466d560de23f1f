use Rattle.std.proofs.Common.{sym, ap, ◌∙◌, subst}
use Rattle.array_eval.specs.Traces.{fresh}
use Rattle.step_eval.specs.Inside.Computed.{HasReached}
use Rattle.step_eval.specs.Nests.{NestedParts, nested_of, IsFitNest}
use Rattle.step_eval.proofs.ComputeLemmas.{reached_none}
use Rattle.loop_team.specs.Teams.{IsPhase}
use Rattle.loop_team.proofs.team.Team.with_wishes.Goals as goal

pub phase_of-requires-clause-reached : goal.phase_of-requires-clause-reached
phase_of-requires-clause-reached c =
    subst (λ s. HasReached (nested_of c.args.nested) 0 s) (sym (c.in_ok-store.ensures ∙ ap (λ (n : NestedParts). fresh n.store) c.nested.view_is))
    (reached_none (nested_of c.args.nested))

pub invariant_of-result : goal.invariant_of-result
invariant_of-result c =
    let is : IsPhase c.args.nested 0 c.in_ok-barrier.field-0 = c.in_ok-barrier.ensures.phase in
    record {
      fit = subst (λ (n : NestedParts). IsFitNest (nested_of n)) c.nested.view_is c.nested.invariant;
      reached = subst (λ s. HasReached (nested_of c.args.nested) 0 s) (sym (c.phase_of.ensures.same ∙ c.in_ok-store.ensures ∙ ap (λ (n : NestedParts). fresh n.store) c.nested.view_is))
          (reached_none (nested_of c.args.nested));
      running = λ place at. is.jobs;
      in_order = (0, ap (λ a. a.unbegun) c.in_ok-agenda.ensures ∙ is.unbegun);
    }
