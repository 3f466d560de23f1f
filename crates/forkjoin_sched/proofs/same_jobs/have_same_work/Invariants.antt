use Rattle.std.proofs.Common.{◌≡◌, map, take}
use Rattle.array_jobs.specs.Jobs.{job_of}
use Rattle.forkjoin_sched.proofs.same_jobs.have_same_work.Given as goal

abbrev pub invariant-loop-number : goal.invariant-loop-number
invariant-loop-number l = map job_of (take l.number l.xs) ≡ map job_of (take l.number l.ys)
