use Rattle.std.proofs.Common.{◌≡◌, ◌%◌, ◌^◌}
use Rattle.task_matrix.specs.Product.{dot}
use Rattle.task_matrix.proofs.rows.dot.Given as goal

abbrev pub invariant-numbers : goal.invariant-numbers
invariant-numbers l = l.sum ≡ dot l.index l.row l.column % 2 ^ 64
