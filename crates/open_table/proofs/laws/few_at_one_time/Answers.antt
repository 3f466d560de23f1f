use Rattle.open_table.proofs.Ways.{few_at_one_time}
use Rattle.open_table.proofs.laws.few_at_one_time.Goals as goal

pub returns : goal.returns
returns c = few_at_one_time
