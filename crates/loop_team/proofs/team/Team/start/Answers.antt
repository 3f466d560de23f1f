use Rattle.std.proofs.Common.{ap, sym, subst}
use Rattle.array_meaning.specs.Stores.{Store}
use Rattle.array_jobs.specs.Jobs.{JobParts}
use Rattle.loop_team.specs.Stripes.{StartsFrom}
use Rattle.loop_team.proofs.StripeLemmas.{first_starts}
use Rattle.loop_team.proofs.team.Team.start.Goals as goal

pub returns : goal.returns
returns c =
    let starts = first_starts _ c.args.self.now c.self.view_is c.self.invariant.running c.jobs-jobs.result.now c.index-jobs-0.result
    c.jobs-jobs.ensures.same c.jobs-jobs.ensures.some c.index-jobs-0.is in
    subst (λ (store : Store). StartsFrom c.args.self.now store) (sym (ap (λ (j : JobParts). j.store) c.first.view_is)) starts
