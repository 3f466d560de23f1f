-- `retain` leaves the elements that pass the closure's test.
use Rattle.std.proofs.Common.{rules, ◌∙◌, ap, not, eqb}
use Rattle.std.proofs.lemmas.Fn.{filter_same}
use Rattle.turn_sched.specs.declared.ring.Place.{Place}
use Rattle.turn_sched.specs.Ring.{RingParts, without_child}
use Rattle.turn_sched.proofs.ring.Ring.remove.Goals as goal

pub returns : goal.returns
returns c =
    let kept = filter_same _ (λ (p : Place). not (eqb p.child c.args.child)) _ (λ x b f' k. search rules) _ _ c.retain.ensures.filtered in
    (λ i. record { places = kept i; room = c.self.inside.room }) ∙ ap (λ (r : RingParts). without_child c.args.child r) c.self.view_is
