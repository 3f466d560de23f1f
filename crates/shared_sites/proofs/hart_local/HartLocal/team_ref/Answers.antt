use Rattle.std.proofs.Common.{refl, subst}
use Rattle.shared_sites.specs.Identities.{identities_of}
use Rattle.shared_sites.specs.References.{HasNoCounters}
use Rattle.shared_sites.proofs.hart_local.HartLocal.team_ref.Goals as goal

pub returns-in_err-row-clause-none : goal.returns-in_err-row-clause-none
returns-in_err-row-clause-none c = λ none.
    let inside = c.self.inside in
    subst (λ k. HasNoCounters k c.args.team.now) c.self.view_is
    (subst (HasNoCounters (identities_of inside.rows inside.seat inside.claims.now)) c.nested.ensures (c.in_err-row.ensures.none refl))
