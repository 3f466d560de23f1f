use Rattle.open_table.proofs.Ways.{requests_within_harts}
use Rattle.open_table.proofs.laws.requests_within_harts.Goals as goal

pub returns : goal.returns
returns c = requests_within_harts
