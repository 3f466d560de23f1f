use Rattle.std.proofs.Common.{◌≡◌, ◌%◌, ◌^◌, ◌∙◌, length, ap, arith}
use Rattle.task_loops.proofs.Ranges.{zip_more}
use Rattle.task_matrix.specs.Product.{dot}
use Rattle.task_matrix.proofs.rows.times_columns.Goals as goal

pub columns-preserved : goal.columns-preserved
columns-preserved c =
    zip_more (λ column number. number ≡ dot (length c.args.row.now.items) c.args.row.now.items column.items % 2 ^ 64) c.args.columns.now c.columns.column-index c.columns.output.items c.push.new.self.items c.column-item.result c.dot-number.result (omega arith) c.column-item.is c.columns.invariant
    (c.dot-number.ensures ∙ (ap (λ xs. dot (length xs) xs c.as_slice-others.result.now % 2 ^ 64) c.as_slice-numbers.ensures.value ∙ ap (λ ys. dot (length c.args.row.now.items) c.args.row.now.items ys % 2 ^ 64) c.as_slice-others.ensures.value))
    c.in_ok-push.ensures.items
