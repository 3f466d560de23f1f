use Rattle.std.proofs.lemmas.Bool.Decides.{Decides-at}
use Rattle.array_jobs.specs.EqualLaws.{work_decides}
use Rattle.array_jobs.proofs.work.WorkPartialEq.eq.Goals as goal

pub returns-clause-same : goal.returns-clause-same
returns-clause-same c = Decides-at _ _ c.same_work.ensures (work_decides _ _)
