use Rattle.std.proofs.Common.{sym, subst}
use Rattle.pipe_sched.specs.Slots.{IsFull}
use Rattle.pipe_sched.specs.Inside.{AreSettled}
use Rattle.pipe_sched.proofs.Told.{full_is_in_model}
use Rattle.pipe_sched.proofs.state.PipeState.is_full.Goals as goal

pub returns : goal.returns
returns c =
    let same = full_is_in_model c.self.inside.nested c.self.inside.slots.items in (
      λ t. subst IsFull c.self.view_is (same.0 (subst AreSettled c.deref.ensures.value (c.are_settled.ensures.0 t))),
      λ full. c.are_settled.ensures.1 (subst AreSettled (sym c.deref.ensures.value) (same.1 (subst IsFull (sym c.self.view_is) full))),
    )
