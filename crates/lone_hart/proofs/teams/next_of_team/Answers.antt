use Rattle.std.proofs.Common.{◌≢◌, ◌⊎◌, sym, ap, ◌∙◌, subst, inl, inr}
use Rattle.array_jobs.specs.Jobs.{JobParts}
use Rattle.sched_api.specs.declared.scheduler.Next.{Next}
use Rattle.sched_api.specs.declared.scheduler.Next.TheVariants.{Run}
use Rattle.sched_api.specs.Agenda.{TakesNext}
use Rattle.loop_team.specs.Teams.{TeamParts, IsOver}
use Rattle.step_eval.specs.declared.work.Work.{Work}
use Rattle.step_eval.specs.declared.work.Work.TheVariants.{Begin}
use Rattle.lone_hart.specs.Sites.{IsRunning}
use Rattle.lone_hart.specs.Served.{GivesLone}
use Rattle.lone_hart.specs.declared.site.LoneSite.TheVariants.{Team}
use Rattle.lone_hart.proofs.Accounts.{always_begins}
use Rattle.lone_hart.proofs.ServedTeams.{team_rests, team_gives}
use Rattle.lone_hart.proofs.teams.next_of_team.Goals as goal

-- A team that isn't done hands out a job.
none : (before after : TeamParts) (next : Next Work) → IsOver before ⊎ IsRunning before → ¬ IsOver before → TakesNext before.agenda next after.agenda → ((job : JobParts) → next ≢ Run (Begin job)) → ⊥
none before after next (inl over) never taken other = never over
none before after next (inr runs) never taken other = always_begins Begin before.barrier before.agenda after.agenda next runs.account runs.waits taken other

pub returns-then-is_over-clause-gives : goal.returns-then-is_over-clause-gives
returns-then-is_over-clause-gives c = team_rests c.args.team.now (c.is_over.ensures.0 c.if-is_over.true)

pub returns-in-Run-Begin-clause-gives : goal.returns-in-Run-Begin-clause-gives
returns-in-Run-Begin-clause-gives c =
    let before = c.args.team.now in
    let after = c.sched_reenter.new.current in
    let does = c.sched_reenter.ensures.does in
    let taken = subst (λ next. TakesNext before.agenda next after.agenda) (c.in-Run-Begin.is ∙ ap Run c.in-Run-Begin.field-0-is) does.handed in
    subst (λ t. GivesLone (Team before) (Run c.in-Run-Begin.job) (Team t)) (sym does.rest)
    (team_gives before after.agenda c.in-Run-Begin.job (λ over. let yes = c.is_over.ensures.1 over in let no = c.if-is_over.false in cc) taken)

pub returns-in-Run-Ready-clause-gives : goal.returns-in-Run-Ready-clause-gives
returns-in-Run-Ready-clause-gives c = λ settled. absurd (none c.args.team.now c.sched_reenter.new.current c.sched_reenter.result settled (λ over. let yes = c.is_over.ensures.1 over in let no = c.if-is_over.false in cc) c.sched_reenter.ensures.does.handed
    (λ job e. let clash = sym e ∙ c.in-Run-Ready.is ∙ ap Run c.in-Run-Ready.field-0-is in cc))

pub returns-in-Lend-clause-gives : goal.returns-in-Lend-clause-gives
returns-in-Lend-clause-gives c = λ settled. absurd (none c.args.team.now c.sched_reenter.new.current c.sched_reenter.result settled (λ over. let yes = c.is_over.ensures.1 over in let no = c.if-is_over.false in cc) c.sched_reenter.ensures.does.handed
    (λ job e. let clash = sym e ∙ c.in-Lend.is in cc))

pub returns-clause-gives : goal.returns-clause-gives
returns-clause-gives c = λ settled. absurd (none c.args.team.now c.sched_reenter.new.current c.sched_reenter.result settled (λ over. let yes = c.is_over.ensures.1 over in let no = c.if-is_over.false in cc) c.sched_reenter.ensures.does.handed
    (λ job e. let clash = sym e ∙ c.in-Nothing.is in cc))
