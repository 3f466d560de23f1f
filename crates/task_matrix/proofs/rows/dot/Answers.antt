use Rattle.std.proofs.Common.{◌+◌, ◌*◌, ◌%◌, ◌^◌, get_or, refl}
use Rattle.task_matrix.proofs.Sums.{dot_more}
use Rattle.task_matrix.proofs.rows.dot.Goals as goal

pub numbers-preserved : goal.numbers-preserved
numbers-preserved c =
    dot_more c.args.row.now c.args.column.now c.numbers.index c.numbers.sum ((c.numbers.sum + (get_or c.args.row.now c.numbers.index 0 * c.number_at-other.result) % 2 ^ 64) % 2 ^ 64) (get_or c.args.row.now c.numbers.index 0) c.number_at-other.result (2 ^ 64) c.numbers.invariant refl c.number_at-other.ensures refl
