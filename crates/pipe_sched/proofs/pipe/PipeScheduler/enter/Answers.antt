use Rattle.std.proofs.Common.{subst, ap, ◌∙◌}
use Rattle.sched_api.specs.declared.scheduler.Next.TheVariants.{Run}
use Rattle.step_eval.specs.Nests.{NestedParts}
use Rattle.step_eval.specs.declared.work.Work.TheVariants.{Begin}
use Rattle.pipe_sched.specs.Schedulers.{SchedulerParts, Answers}
use Rattle.pipe_sched.proofs.Failing.{given_stays}
use Rattle.pipe_sched.proofs.Scheduling.{scheduler_model, answers_begun, answers_rest}
use Rattle.pipe_sched.proofs.pipe.PipeScheduler.enter.Goals as goal

pub returns-in-Some-next_or_fail-clause-does : goal.returns-in-Some-next_or_fail-clause-does
returns-in-Some-next_or_fail-clause-does c =
    subst (λ (p : SchedulerParts). Answers p (Run (Begin c.in-Some-next_or_fail.job)) (scheduler_model c.next_or_fail.new.self c.take_ready.new.self)) c.self.view_is
    (answers_begun c.self.inside.state c.next_or_fail.new.self c.self.inside.agenda c.take_ready.new.self c.in-Some-next_or_fail.job
    c.in_default.ensures c.in-Some-next_or_fail.ensures)

pub returns-in-Some-next_or_fail-clause-site : goal.returns-in-Some-next_or_fail-clause-site
returns-in-Some-next_or_fail-clause-site c =
    ap (λ (n : NestedParts). n.site) (given_stays c.self.inside.state c.next_or_fail.new.self c.next_or_fail.result c.next_or_fail.ensures)
    ∙ ap (λ (p : SchedulerParts). p.state.nested.site) c.self.view_is

pub returns-in-None-clause-does : goal.returns-in-None-clause-does
returns-in-None-clause-does c =
    subst (λ (p : SchedulerParts). Answers p c.take_next.result (scheduler_model c.next_or_fail.new.self c.take_next.new.self)) c.self.view_is
    (answers_rest c.self.inside.state c.next_or_fail.new.self c.self.inside.agenda c.take_ready.new.self c.take_next.new.self c.take_next.result
    c.self.invariant c.in_default.ensures c.in-None.ensures c.take_next.ensures)

pub returns-in-None-clause-site : goal.returns-in-None-clause-site
returns-in-None-clause-site c =
    ap (λ (n : NestedParts). n.site) (given_stays c.self.inside.state c.next_or_fail.new.self c.next_or_fail.result c.next_or_fail.ensures)
    ∙ ap (λ (p : SchedulerParts). p.state.nested.site) c.self.view_is
