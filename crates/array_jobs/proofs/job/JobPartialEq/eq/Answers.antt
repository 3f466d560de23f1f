use Rattle.std.proofs.lemmas.Bool.Decides.{Decides-at}
use Rattle.array_jobs.specs.EqualLaws.{job_decides}
use Rattle.array_jobs.proofs.job.JobPartialEq.eq.Goals as goal

pub returns-clause-same : goal.returns-clause-same
returns-clause-same c = Decides-at _ _ c.same_job.ensures (job_decides _ _)
