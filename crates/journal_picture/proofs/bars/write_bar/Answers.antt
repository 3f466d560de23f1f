use Rattle.std.proofs.Common.{◌-◌, ◌+◌, ◌<◌, string_bytes, rules}
use Rattle.journal_picture.specs.SvgBars.{part_text, parts_text}
use Rattle.journal_picture.specs.Views.{view_of}
use Rattle.journal_picture.proofs.Turns.{parts_more}
use Rattle.journal_picture.proofs.Written.{turn}
use Rattle.journal_picture.proofs.bars.write_bar.Goals as goal

pub loop-i-preserved : goal.loop-i-preserved
loop-i-preserved c =
    let v = view_of c.args.drawing.now in
    let stay = c.args.stay in
    let row = c.row_of-first.result in
    let n = c.row_count-count.result in
    let i = c.loop-i.i in
    let within : i < n = search rules in
    turn (string_bytes c.loop-i.text) (string_bytes c.write_part.new.text) (part_text v stay (row + i))
    (parts_text v stay (row + i) (n - i)) (parts_text v stay (row + (i + 1)) (n - (i + 1))) _ c.loop-i.invariant
    (parts_more v stay row n i within) c.in_ok-write_part.ensures
