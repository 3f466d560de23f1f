use Rattle.transfer_table.proofs.LawsHold.{sites_begin_once}
use Rattle.transfer_table.proofs.laws.sites_begin_once.Goals as goal

pub returns : goal.returns
returns c = sites_begin_once
