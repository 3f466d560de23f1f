use Rattle.std.proofs.Common.{◌≢◌, sym, ap, ◌∙◌, subst, inl, inr}
use Rattle.array_jobs.specs.Jobs.{JobParts}
use Rattle.sched_api.specs.declared.scheduler.Next.{Next}
use Rattle.sched_api.specs.declared.scheduler.Next.TheVariants.{Run}
use Rattle.sched_api.specs.Agenda.{TakesNext}
use Rattle.join_book.specs.Books.{IsFull}
use Rattle.forkjoin_sched.specs.Pools.{PoolParts}
use Rattle.step_eval.specs.declared.work.Work.{Work}
use Rattle.step_eval.specs.declared.work.Work.TheVariants.{Begin}
use Rattle.lone_hart.specs.Accounts.{AllCameBack}
use Rattle.lone_hart.proofs.Accounts.{always_begins}
use Rattle.lone_hart.proofs.ServedPools.{pool_rests, pool_gives}
use Rattle.lone_hart.proofs.pools.next_of_pool.Goals as goal
use Rattle.lone_hart.proofs.pools.next_of_pool.Goals.{then-has_failed-via-then-has_failed, then-has_failed-via-else-has_failed+then-is_full}

-- A pool that isn't full hands out a job.
none : (before after : PoolParts) (next : Next Work) → AllCameBack Begin before.book before.agenda → ¬ IsFull before.book → TakesNext before.agenda next after.agenda → ((job : JobParts) → next ≢ Run (Begin job)) → ⊥
none before after next = always_begins Begin before.book before.agenda after.agenda next

pub returns-then-has_failed-clause-gives : goal.returns-then-has_failed-clause-gives
returns-then-has_failed-clause-gives c = λ nested. pool_rests nested c.args.pool.now (elim c.then-has_failed.branch [
  | then-has_failed-via-then-has_failed w ↦ inr (c.has_failed.ensures.0 w.if-has_failed.true)
  | then-has_failed-via-else-has_failed+then-is_full w ↦ inl (w.is_full.ensures.0 w.if-is_full.true)
])

pub returns-in-Run-Begin-clause-gives : goal.returns-in-Run-Begin-clause-gives
returns-in-Run-Begin-clause-gives c = λ nested.
    let before = c.args.pool.now in
    let after = c.sched_reenter.new.current in
    let does = c.sched_reenter.ensures.does in
    let taken = subst (λ next. TakesNext before.agenda next after.agenda) (c.in-Run-Begin.is ∙ ap Run c.in-Run-Begin.field-0-is) does.handed in
    pool_gives nested before after c.in-Run-Begin.job (λ failed. let yes = c.has_failed.ensures.1 failed in let no = c.if-has_failed.false in cc) taken does.book

pub returns-in-Run-Ready-clause-gives : goal.returns-in-Run-Ready-clause-gives
returns-in-Run-Ready-clause-gives c = λ nested settled. absurd (none c.args.pool.now c.sched_reenter.new.current c.sched_reenter.result settled.1 (λ full. let yes = c.is_full.ensures.1 full in let no = c.if-is_full.false in cc) c.sched_reenter.ensures.does.handed
    (λ job e. let clash = sym e ∙ c.in-Run-Ready.is ∙ ap Run c.in-Run-Ready.field-0-is in cc))

pub returns-in-Lend-clause-gives : goal.returns-in-Lend-clause-gives
returns-in-Lend-clause-gives c = λ nested settled. absurd (none c.args.pool.now c.sched_reenter.new.current c.sched_reenter.result settled.1 (λ full. let yes = c.is_full.ensures.1 full in let no = c.if-is_full.false in cc) c.sched_reenter.ensures.does.handed
    (λ job e. let clash = sym e ∙ c.in-Lend.is in cc))

pub returns-clause-gives : goal.returns-clause-gives
returns-clause-gives c = λ nested settled. absurd (none c.args.pool.now c.sched_reenter.new.current c.sched_reenter.result settled.1 (λ full. let yes = c.is_full.ensures.1 full in let no = c.if-is_full.false in cc) c.sched_reenter.ensures.does.handed
    (λ job e. let clash = sym e ∙ c.in-Nothing.is in cc))
