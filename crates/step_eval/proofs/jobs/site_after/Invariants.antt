use Rattle.std.proofs.Common.{◌≡◌, ◌+◌, drop, map}
use Rattle.array_jobs.specs.Works.{work_of}
use Rattle.step_eval.specs.Nests.{sites_of_all}
use Rattle.step_eval.proofs.jobs.site_after.Given as goal

-- The sites so far, and those of the remaining works.
abbrev pub invariant-loop-work : goal.invariant-loop-work
invariant-loop-work l =
    l.after + sites_of_all (map work_of (drop l.work-index l.works)) ≡ l.next + sites_of_all (map work_of l.works)
