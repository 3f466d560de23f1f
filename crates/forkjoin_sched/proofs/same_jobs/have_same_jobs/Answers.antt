use Rattle.std.proofs.Common.{sym, ◌∙◌}
use Rattle.forkjoin_sched.proofs.SameJobs.{same_jobs, equal_jobs}
use Rattle.forkjoin_sched.proofs.same_jobs.have_same_jobs.Goals as goal

pub returns : goal.returns
returns c = (λ t. same_jobs c.args.xs.now c.args.ys.now (sym c.eq.ensures ∙ t), λ same. c.eq.ensures ∙ equal_jobs c.args.xs.now c.args.ys.now same)
