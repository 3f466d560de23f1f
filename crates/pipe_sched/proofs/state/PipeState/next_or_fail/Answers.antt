use Rattle.std.proofs.Common.{[], refl, ap, ◌∙◌, ◌++◌, ◌∷◌}
use Rattle.pipe_sched.specs.Slots.{PipeParts, failed_pipe}
use Rattle.pipe_sched.proofs.Failing.{one_more_fails, fewer_wait}
use Rattle.pipe_sched.proofs.state.PipeState.next_or_fail.Goals as goal

pub pieces-init : goal.pieces-init
pieces-init c = ([], refl)

pub returns-in-Ok : goal.returns-in-Ok
returns-in-Ok c =
    record { failed = c.pieces.invariant.0; left = c.pieces.self; fail = c.pieces.invariant.1; gives = c.in-Ok.ensures.given }

pub pieces-smaller : goal.pieces-smaller
pieces-smaller c =
    fewer_wait c.pieces.self c.fail.new.self c.in-Some.member c.in-Some.phase c.in-Some.ensures.some
    (c.fail.ensures.same ∙ ap (λ (p : PipeParts). failed_pipe p c.in-Some.member c.in-Some.phase) c.in-Err.ensures.same)

pub pieces-preserved : goal.pieces-preserved
pieces-preserved c = (
  c.pieces.invariant.0 ++ (c.in-Some.member, c.in-Some.phase) ∷ [],
  one_more_fails c.args.self.now c.pieces.self c.fail.new.self c.pieces.invariant.0 c.in-Some.member c.in-Some.phase c.pieces.invariant.1 c.in-Some.ensures.some
      (c.fail.ensures.same ∙ ap (λ (p : PipeParts). failed_pipe p c.in-Some.member c.in-Some.phase) c.in-Err.ensures.same),
)

pub returns : goal.returns
returns c =
    record { failed = c.pieces.invariant.0; left = c.pieces.self; fail = c.pieces.invariant.1; gives = (c.in_default.ensures.none, refl) }
