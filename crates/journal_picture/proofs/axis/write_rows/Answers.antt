use Rattle.std.proofs.Common.{◌-◌, ◌+◌, ◌<◌, string_bytes, rules}
use Rattle.journal_picture.specs.SvgMarks.{row_names, rows_svg}
use Rattle.journal_picture.specs.Views.{view_of}
use Rattle.journal_picture.proofs.Turns.{rows_more}
use Rattle.journal_picture.proofs.Written.{turn}
use Rattle.journal_picture.proofs.axis.write_rows.Goals as goal

pub loop-row-preserved : goal.loop-row-preserved
loop-row-preserved c =
    let v = view_of c.args.drawing.now in
    let n = c.rows-count.result in
    let i = c.loop-row.row in
    let within : i < n = search rules in
    turn (string_bytes c.loop-row.text) (string_bytes c.write_row_names.new.text) (row_names v i) (rows_svg v i (n - i))
    (rows_svg v (i + 1) (n - (i + 1))) _ c.loop-row.invariant (rows_more v n i within) c.in_ok-write_row_names.ensures
