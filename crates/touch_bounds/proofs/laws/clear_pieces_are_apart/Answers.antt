use Rattle.touch_bounds.proofs.PieceLemmas.{clear_apart}
use Rattle.touch_bounds.proofs.laws.clear_pieces_are_apart.Goals as goal

pub returns : goal.returns
returns c = clear_apart
