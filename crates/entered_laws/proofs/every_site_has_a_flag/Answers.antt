use Rattle.entered_laws.proofs.Parts.{every_site_has_a_flag}
use Rattle.entered_laws.proofs.every_site_has_a_flag.Goals as goal

pub returns : goal.returns
returns c = every_site_has_a_flag
