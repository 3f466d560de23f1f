use Rattle.std.proofs.Common.{ap, ◌∙◌, sym, subst}
use Rattle.array_jobs.specs.PieceParts.{PieceParts}
use Rattle.loop_team.specs.Stripes.{StripeParts, StartFrom}
use Rattle.loop_team.proofs.StripeLemmas.{starts_set, starts_of}
use Rattle.loop_team.proofs.stripes.Stripe.arrive.Goals as goal

pub invariant_of-self : goal.invariant_of-self
invariant_of-self c =
    let all = subst (λ (s : StripeParts). StartFrom s.start s.seats) c.self.view_is c.self.invariant.starts in
    let own = starts_of c.args.self.now.start c.args.self.now.seats c.args.row c.piece.inside.job all (c.waits_for.ensures.0 c.if-not-waits_for.false) in
    record {
      few = c.self.invariant.few;
      starts = starts_set c.self.inside.start c.self.inside.seats.items c.from.result _ c.self.invariant.starts
          (ap (λ (p : PieceParts). p.job.store) (sym c.piece.view_is) ∙ own ∙ ap (λ (s : StripeParts). s.start) (sym c.self.view_is));
    }
