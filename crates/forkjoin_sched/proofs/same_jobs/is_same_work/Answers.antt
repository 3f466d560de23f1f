use Rattle.array_jobs.specs.Jobs.{job_of}
use Rattle.forkjoin_sched.proofs.SameJobs.{rest_same}
use Rattle.forkjoin_sched.proofs.same_jobs.is_same_work.Goals as goal

pub returns : goal.returns
returns c = rest_same (job_of c.args.a.now) (job_of c.args.b.now) c.requires c.has_same_rest.result c.has_same_rest.ensures
