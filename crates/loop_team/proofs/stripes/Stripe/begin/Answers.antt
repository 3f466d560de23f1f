use Rattle.std.proofs.Common.{sym, subst}
use Rattle.array_meaning.specs.Stores.{Store}
use Rattle.loop_team.specs.Stripes.{StripeParts, StartsFrom, AreSeatsOf}
use Rattle.loop_team.proofs.StripeLemmas.{seats_start}
use Rattle.loop_team.proofs.stripes.Stripe.begin.Goals as goal

pub invariant_of-self-2 : goal.invariant_of-self-2
invariant_of-self-2 c =
    let starts = subst (λ (s : Store). StartsFrom c.args.team.now s) (sym c.in_ok-self-inside.ensures) c.start.ensures in
    record { few = c.self.invariant.few; starts = seats_start c.args.team.now c.self.inside.number c.in_ok-self-inside.field-0 c.fill.new.seats.items starts c.fill.ensures.seats }

pub returns-clause-seats : goal.returns-clause-seats
returns-clause-seats c = subst (λ (s : StripeParts). AreSeatsOf c.args.team.now s.number c.fill.new.seats.items) c.self.view_is c.fill.ensures.seats
