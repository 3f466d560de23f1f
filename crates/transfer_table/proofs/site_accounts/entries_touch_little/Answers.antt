use Rattle.transfer_table.proofs.Touches.{entries_touch_little}
use Rattle.transfer_table.proofs.site_accounts.entries_touch_little.Goals as goal

pub returns : goal.returns
returns c = entries_touch_little
