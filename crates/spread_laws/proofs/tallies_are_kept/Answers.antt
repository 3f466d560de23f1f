use Rattle.spread_laws.proofs.Built.{tally_kept}
use Rattle.spread_laws.proofs.tallies_are_kept.Goals as goal

pub returns : goal.returns
returns c = tally_kept
