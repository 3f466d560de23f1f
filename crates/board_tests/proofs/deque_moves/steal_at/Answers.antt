use Rattle.std.proofs.Common.{◌<◌, subst, sym}
use Rattle.deque_rows.proofs.Callers.{one_moved, reaches_all}
use Rattle.board_tests.proofs.deque_moves.steal_at.Goals as goal

pub steal-requires-clause-hart : goal.steal-requires-clause-hart
steal-requires-clause-hart g c = subst (λ n. c.args.hart < n) (sym (reaches_all c.args.rows.now c.requires.all c.args.thief c.index-rows-thief.result c.requires.thief)) c.requires.row.1

pub returns : goal.returns
returns g c = one_moved c.args.rows.now c.args.thief c.steal.new.self c.index-rows-thief.result c.steal.ensures.identity
