use Rattle.std.proofs.Common.{subst}
use Rattle.array_jobs.specs.PieceParts.{PieceParts}
use Rattle.join_book.specs.Books.{IsPlaceOf}
use Rattle.loop_team.proofs.team.Team.take_in.Goals as goal

pub keep-requires-clause-own : goal.keep-requires-clause-own
keep-requires-clause-own c =
    subst (λ (p : PieceParts). IsPlaceOf c.args.self.now.barrier p.job.place p.job) c.piece.view_is (c.waits_for.ensures c.if-waits_for.true).0
