use Rattle.std.proofs.Common.{ap, ◌∙◌}
use Rattle.loop_team.specs.Stripes.{StripeParts, IsVacant}
use Rattle.loop_team.proofs.StripeLemmas.{found_at, none_at}
use Rattle.loop_team.proofs.stripes.Stripe.is_open.Goals as goal

pub returns-in-Some : goal.returns-in-Some
returns-in-Some c =
    found_at IsVacant c.deref.result.now c.args.self.now.seats c.from.result c.args.row c.in-Some.seat.now c.is_open.result c.in-Some.ensures.lookup.0 c.in-Some.ensures.lookup.1
    (c.deref.ensures.value ∙ ap (λ (s : StripeParts). s.seats) c.self.view_is) c.from.ensures c.is_open.ensures

pub returns-in-None : goal.returns-in-None
returns-in-None c =
    none_at IsVacant c.deref.result.now c.args.self.now.seats c.from.result c.args.row c.in-None.ensures.lookup.0
    (c.deref.ensures.value ∙ ap (λ (s : StripeParts). s.seats) c.self.view_is) c.from.ensures
