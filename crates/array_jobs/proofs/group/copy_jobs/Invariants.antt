use Rattle.std.proofs.Common.{◌≡◌, take}
use Rattle.array_jobs.proofs.group.copy_jobs.Given as goal

-- The jobs so far are copied.
abbrev pub invariant-loop-job : goal.invariant-loop-job
invariant-loop-job l = l.copies.items ≡ take l.job-index l.jobs
