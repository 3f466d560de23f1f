use Rattle.deque_rows.proofs.Moves.{forks}
use Rattle.deque_rows.proofs.ends.HomeEnd.another.Goals as goal

pub another-pass-requires : goal.another-pass-requires
another-pass-requires c = forks _ _ c.requires
