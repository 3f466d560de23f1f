use Rattle.std.proofs.Common.{sym, subst}
use Rattle.pipe_sched.specs.Slots.{HasFailed}
use Rattle.pipe_sched.specs.Inside.{HaveFailed}
use Rattle.pipe_sched.proofs.Told.{failed_is_in_model}
use Rattle.pipe_sched.proofs.state.PipeState.has_failed.Goals as goal

pub returns : goal.returns
returns c =
    let same = failed_is_in_model c.self.inside.nested c.self.inside.slots.items in (
      λ t. subst HasFailed c.self.view_is (same.0 (subst HaveFailed c.deref.ensures.value (c.some_failed.ensures.0 t))),
      λ failed. c.some_failed.ensures.1 (subst HaveFailed (sym c.deref.ensures.value) (same.1 (subst HasFailed (sym c.self.view_is) failed))),
    )
