use Rattle.std.proofs.lemmas.Bool.{false≢true}
use Rattle.pipe_sched.specs.Slots.{Out}
use Rattle.pipe_sched.specs.Inside.{mark_of}
use Rattle.pipe_sched.proofs.Told.{mark_is_out}
use Rattle.pipe_sched.proofs.state.PipeState.is_out_at.Goals as goal

pub returns-in-Some : goal.returns-in-Some
returns-in-Some c =
    let same = mark_is_out c.args.self.now c.args.member c.args.phase (mark_of c.in-Some.slot.now) c.in-Some.ensures.some.0 in
    (λ t. same.0 (c.is_out.ensures.0 t), λ out. c.is_out.ensures.1 (same.1 out))

pub returns-in-None : goal.returns-in-None
returns-in-None c = (λ t. absurd (false≢true t), λ out. absurd (c.in-None.ensures.none Out out))
