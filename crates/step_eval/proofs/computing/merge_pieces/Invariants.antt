use Rattle.std.proofs.Common.{◌≡◌, drop, map}
use Rattle.array_eval.specs.Traces.{noted_all}
use Rattle.array_jobs.specs.Jobs.{job_of}
use Rattle.step_eval.specs.Inside.Computed.{writes_of_jobs}
use Rattle.step_eval.proofs.computing.merge_pieces.Given as goal

-- The remaining merges give what all give.
abbrev pub invariant-loop-job : goal.invariant-loop-job
invariant-loop-job l =
    noted_all (writes_of_jobs (map job_of (drop l.job-index l.jobs))) l.store ≡ noted_all (writes_of_jobs (map job_of l.jobs)) l.fn.store
