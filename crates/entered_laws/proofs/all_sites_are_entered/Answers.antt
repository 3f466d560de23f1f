use Rattle.entered_laws.proofs.Entering.{all_sites_are_entered}
use Rattle.entered_laws.proofs.all_sites_are_entered.Goals as goal

pub returns : goal.returns
returns c = all_sites_are_entered
