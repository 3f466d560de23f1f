use Rattle.hart_loop.proofs.SameHarts.{same_looked}
use Rattle.hart_loop.proofs.hart.run_body.Goals as goal

-- The hart returned from the body and from the sweep, and has looked at sites since.
pub returns-clause-same : goal.returns-clause-same
returns-clause-same g c =
    let seen = g.P.Port.seen in
    same_looked (seen c.args.hart.now.port) (seen c.run_piece-piece.new.port) (seen c.sweep_if.new.port) (seen c.finish_base.new.port)
    c.run_piece-piece.ensures.back c.sweep_if.ensures.back c.finish_base.ensures.looked
