use Rattle.std.proofs.Common.{◌-◌, ◌+◌, ◌<◌, string_bytes, rules}
use Rattle.transfer_table.specs.Plan.{site_count}
use Rattle.journal_picture.specs.SvgTable.{listed_row, rows_from}
use Rattle.journal_picture.specs.Views.{view_of}
use Rattle.journal_picture.proofs.Turns.{rows_from_more}
use Rattle.journal_picture.proofs.Written.{turn}
use Rattle.journal_picture.proofs.table.write_rows.Goals as goal

pub loop-i-preserved : goal.loop-i-preserved
loop-i-preserved c =
    let v = view_of c.args.drawing.now in
    let n = site_count v.plan in
    let i = c.loop-i.i in
    let within : i < n = search rules in
    turn (string_bytes c.loop-i.text) (string_bytes c.write_listed.new.text) (listed_row v (i + 1))
    (rows_from v (i + 1) (n - i)) (rows_from v (i + 1 + 1) (n - (i + 1))) _ c.loop-i.invariant
    (rows_from_more v (i + 1) n i within) c.in_ok-write_listed.ensures
