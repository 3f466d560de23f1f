use Rattle.std.proofs.Common.{ap}
use Rattle.array_jobs.specs.Jobs.{JobParts}
use Rattle.pipe_sched.specs.Slots.{Out}
use Rattle.pipe_sched.proofs.Told.{mark_at_job}
use Rattle.pipe_sched.proofs.state.PipeState.is_out.Goals as goal

pub returns : goal.returns
returns c =
    let same = mark_at_job c.args.self.now c.args.job.now c.job.inside.place c.job.inside.phase Out
    (ap (λ (j : JobParts). j.place) c.job.view_is) (ap (λ (j : JobParts). j.phase) c.job.view_is) in
    (λ t. same.0 (c.is_out_at.ensures.0 t), λ out. c.is_out_at.ensures.1 (same.1 out))
