use Rattle.std.proofs.Common.{◌≡◌, ap, sym, subst}
use Rattle.join_book.specs.Books.{BookParts}
use Rattle.step_eval.specs.Nests.{NestedParts, nested_of, IsFitNest}
use Rattle.loop_team.specs.Teams.{TeamParts, AreJobsIn}
use Rattle.step_eval.specs.declared.work.Work.TheVariants.{Begin}
use Rattle.lone_hart.specs.Accounts.{Stands}
use Rattle.lone_hart.proofs.Accounts.{none_out}
use Rattle.lone_hart.proofs.TeamAccounts.{begins, are_group}
use Rattle.lone_hart.proofs.teams.open_team.Goals as goal

pub returns-clause-account : goal.returns-clause-account
returns-clause-account c =
    let team = c.in_ok-team.team in
    let new = c.in_ok-team.ensures in
    let same : team.nested ≡ c.args.nested = ap (λ (t : TeamParts). t.nested) new.rest in
    let fit = subst (λ (n : NestedParts). IsFitNest (nested_of n)) same c.nested.ensures.fit in
    begins c.args.nested fit 0 team.barrier.jobs new.jobs team (ap (λ (t : TeamParts). t.barrier) new.rest) (ap (λ (t : TeamParts). t.agenda.ready) new.rest) (ap (λ (t : TeamParts). t.agenda.unbegun) new.rest)

pub returns-clause-opened : goal.returns-clause-opened
returns-clause-opened c = ap (λ (t : TeamParts). t.opened) c.in_ok-team.ensures.rest

pub returns-clause-jobs : goal.returns-clause-jobs
returns-clause-jobs c =
    let team = c.in_ok-team.team in
    let new = c.in_ok-team.ensures in
    let same : team.nested ≡ c.args.nested = ap (λ (t : TeamParts). t.nested) new.rest in
    subst (λ (n : NestedParts). AreJobsIn n 0 team.barrier.jobs) (sym same) new.jobs

pub returns-clause-none : goal.returns-clause-none
returns-clause-none c =
    let team = c.in_ok-team.team in
    let new = c.in_ok-team.ensures in
    let same : team.nested ≡ c.args.nested = ap (λ (t : TeamParts). t.nested) new.rest in
    let fit = subst (λ (n : NestedParts). IsFitNest (nested_of n)) same c.nested.ensures.fit in
    subst (λ (b : BookParts). Stands Begin b team.agenda 0 0) (sym (ap (λ (t : TeamParts). t.barrier) new.rest))
    (none_out Begin team.barrier.jobs team.agenda (are_group c.args.nested fit 0 team.barrier.jobs new.jobs) (ap (λ (t : TeamParts). t.agenda.ready) new.rest) (ap (λ (t : TeamParts). t.agenda.unbegun) new.rest))
