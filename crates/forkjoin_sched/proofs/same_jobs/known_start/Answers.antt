use Rattle.std.proofs.Common.{Bool, Some, option_map, ◌∙◌, sym, ap, subst}
use Rattle.array_meaning.specs.Stores.{Store}
use Rattle.array_jobs.specs.Jobs.{JobParts}
use Rattle.forkjoin_sched.specs.Pools.{StartFrom, start_of}
use Rattle.forkjoin_sched.proofs.Starts.{all_start}
use Rattle.forkjoin_sched.proofs.same_jobs.known_start.Goals as goal

pub returns-then-not-is_known-clause-known : goal.returns-then-not-is_known-clause-known
returns-then-not-is_known-clause-known c = sym (ap (λ (k : Bool). start_of k c.args.jobs.now) c.if-not-is_known.true)

pub returns-in-Some-clause-known : goal.returns-in-Some-clause-known
returns-in-Some-clause-known c =
    ap (λ (j : JobParts). Some j.store) c.job.view_is ∙ ap (option_map (λ (j : JobParts). j.store)) c.in-Some.ensures.value
    ∙ sym (ap (λ (k : Bool). start_of k c.args.jobs.now) c.if-not-is_known.false)

pub returns-in-Some-clause-all : goal.returns-in-Some-clause-all
returns-in-Some-clause-all c =
    subst (λ (s : Store). StartFrom s c.args.jobs.now) (sym (ap (λ (j : JobParts). j.store) c.job.view_is))
    (all_start c.args.jobs.now 0 c.in-Some.job.now (c.requires c.if-not-is_known.false) (sym c.in-Some.ensures.value))
