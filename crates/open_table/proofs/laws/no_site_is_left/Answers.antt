use Rattle.open_table.proofs.Ways.{no_site_is_left}
use Rattle.open_table.proofs.laws.no_site_is_left.Goals as goal

pub returns : goal.returns
returns c = no_site_is_left
