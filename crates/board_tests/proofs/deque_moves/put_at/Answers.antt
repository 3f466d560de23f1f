use Rattle.deque_rows.proofs.Callers.{one_moved}
use Rattle.board_tests.proofs.deque_moves.put_at.Goals as goal

pub returns : goal.returns
returns c = one_moved c.args.rows.now c.args.hart c.put.new.rows c.index-rows-hart.result c.put.ensures
