use Rattle.std.proofs.Common.{ap}
use Rattle.std.proofs.lemmas.Bool.{false≢true}
use Rattle.array_jobs.specs.Jobs.{JobParts}
use Rattle.pipe_sched.proofs.Told.{has_is_handed_out, mark_at_job}
use Rattle.pipe_sched.proofs.state.PipeState.was_handed_out.Goals as goal

pub returns-in-Some : goal.returns-in-Some
returns-in-Some c =
    let same = has_is_handed_out c.args.self.now c.in-Some.slot.now c.args.job.now c.job.inside.place c.job.inside.phase
    (ap (λ (j : JobParts). j.place) c.job.view_is) (ap (λ (j : JobParts). j.phase) c.job.view_is) c.in-Some.ensures.some in
    (λ t. same.0 (c.has_job.ensures.0 t), λ was. c.has_job.ensures.1 (same.1 was))

pub returns-in-None : goal.returns-in-None
returns-in-None c = (
  λ t. absurd (false≢true t),
  λ was. absurd (c.in-None.ensures.none was.mark
      ((mark_at_job c.args.self.now c.args.job.now c.job.inside.place c.job.inside.phase was.mark
      (ap (λ (j : JobParts). j.place) c.job.view_is) (ap (λ (j : JobParts). j.phase) c.job.view_is)).1 was.marked)),
)
