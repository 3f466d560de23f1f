use Rattle.std.proofs.Common.{◌≡◌, ◌%◌, ◌^◌, length, take}
use Rattle.std.specs.List.{AllZip}
use Rattle.task_matrix.specs.Product.{dot}
use Rattle.task_matrix.proofs.rows.times_columns.Given as goal

abbrev pub invariant-columns : goal.invariant-columns
invariant-columns l = AllZip (λ column number. number ≡ dot (length l.row.items) l.row.items column.items % 2 ^ 64) (take l.column-index l.columns) l.output.items
