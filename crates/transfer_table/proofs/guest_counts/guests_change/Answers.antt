use Rattle.transfer_table.proofs.Changes.{guests_change}
use Rattle.transfer_table.proofs.guest_counts.guests_change.Goals as goal

pub returns : goal.returns
returns c = guests_change
