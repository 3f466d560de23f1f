use Rattle.deque_rows.proofs.Moves.{learns}
use Rattle.deque_rows.proofs.ends.HomeEnd.look.Goals as goal

pub len_as-requires : goal.len_as-requires
len_as-requires c = learns _ _ c.args.self.now.home c.requires
