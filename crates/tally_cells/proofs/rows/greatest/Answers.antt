use Rattle.std.proofs.Common.{arith}
use Rattle.tally_cells.proofs.Few.{greatest_some}
use Rattle.tally_cells.proofs.rows.greatest.Goals as goal

pub loop-number-init : goal.loop-number-init
loop-number-init c = record { rest = greatest_some c.args.numbers.now; some = omega arith }
