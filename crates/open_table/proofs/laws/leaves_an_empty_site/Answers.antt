use Rattle.open_table.proofs.Ways.{leaves_an_empty_site}
use Rattle.open_table.proofs.laws.leaves_an_empty_site.Goals as goal

pub returns : goal.returns
returns c = leaves_an_empty_site
