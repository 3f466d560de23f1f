use Rattle.open_table.proofs.Ways.{others_raise_nothing}
use Rattle.open_table.proofs.laws.others_raise_nothing.Goals as goal

pub returns : goal.returns
returns c = others_raise_nothing
