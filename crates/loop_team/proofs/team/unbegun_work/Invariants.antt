use Rattle.std.proofs.Common.{◌≡◌, map, take}
use Rattle.step_eval.specs.declared.work.Work.TheVariants.{Begin}
use Rattle.loop_team.proofs.team.unbegun_work.Given as goal

abbrev pub invariant-loop-job : goal.invariant-loop-job
invariant-loop-job l = l.unbegun.items ≡ map Begin (take l.job-index l.jobs)
