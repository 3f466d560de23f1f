use Rattle.std.proofs.Common.{rules, ◌∙◌}
use Rattle.turn_sched.proofs.Places.{more_at}
use Rattle.turn_sched.proofs.ring.add_to_place.Goals as goal

pub returns-then-place-child-clause-items : goal.returns-then-place-child-clause-items
returns-then-place-child-clause-items c =
    more_at c.args.child c.args.count c.loop-at.at c.saturating_add-wishes.result c.loop-at.places.items c.index-place.result.now
    (search rules) c.index-place.ensures c.if-place-child.true c.saturating_add-wishes.ensures
    ∙ c.loop-at.invariant.more
