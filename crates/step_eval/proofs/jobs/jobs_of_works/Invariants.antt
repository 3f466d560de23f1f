use Rattle.std.proofs.Common.{◌≡◌, ◌++◌, drop, map}
use Rattle.array_jobs.specs.Works.{work_of}
use Rattle.array_jobs.specs.Jobs.{job_of}
use Rattle.step_eval.specs.Nests.{nested_of, numbered, AreFitJobs}
use Rattle.step_eval.proofs.jobs.jobs_of_works.Given as goal

-- The jobs so far, and those of the remaining works, which are fit.
abbrev pub invariant-loop-place : goal.invariant-loop-place
invariant-loop-place l = record {
  all : map job_of l.jobs.items ++ numbered (nested_of l.nested) l.phase l.store l.place l.first (map work_of (drop l.place l.works))
      ≡ numbered (nested_of l.nested) l.phase l.store 0 l.next (map work_of l.works);
  fit : AreFitJobs (numbered (nested_of l.nested) l.phase l.store l.place l.first (map work_of (drop l.place l.works)));
}
