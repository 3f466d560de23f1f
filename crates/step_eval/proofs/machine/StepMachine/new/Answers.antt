use Rattle.std.proofs.Common.{ap, ◌∙◌}
use Rattle.array_tree.specs.Trees.{declarations_of}
use Rattle.array_meaning.specs.Stores.{arrays_of}
use Rattle.array_jobs.proofs.FitLemmas.{sized}
use Rattle.step_eval.proofs.MachineLemmas.{sound_fresh}
use Rattle.step_eval.proofs.machine.StepMachine.new.Goals as goal

pub invariant_of-result : goal.invariant_of-result
invariant_of-result c = (
  sound_fresh _ c.args.job c.in_ok-frames.frames c.in_ok-store.store c.in_ok-room.room c.job.view_is c.job.invariant
      c.in_ok-frames.ensures.all c.in_ok-frames.ensures.stacked c.in_ok-store.ensures c.in_ok-room.ensures.pairs
      (c.in_ok-room.ensures.room ∙ c.count.ensures),
  c.in_ok-layout.ensures ∙ ap (λ job. arrays_of (declarations_of job.arrays)) c.job.view_is,
)

pub new-requires : goal.new-requires
new-requires c = sized _ c.job.invariant
