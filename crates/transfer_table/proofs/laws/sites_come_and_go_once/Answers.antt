use Rattle.transfer_table.proofs.LawsHold.{sites_come_and_go_once}
use Rattle.transfer_table.proofs.laws.sites_come_and_go_once.Goals as goal

pub returns : goal.returns
returns c = sites_come_and_go_once
