use Rattle.std.proofs.Common.{subst}
use Rattle.array_jobs.specs.Jobs.{JobParts}
use Rattle.loop_team.specs.Stripes.{IsAwaited}
use Rattle.loop_team.proofs.team.Team.waits_for.Goals as goal

pub returns-in-Some : goal.returns-in-Some
returns-in-Some c = λ same.
    let awaited = subst (λ (j : JobParts). IsAwaited c.args.self.now j.place c.in-Some.own.now) c.job.view_is c.in-Some.ensures in
    ((c.in-Some.own.now, awaited.own, c.are_same_work.ensures.0 same), awaited.waits)
