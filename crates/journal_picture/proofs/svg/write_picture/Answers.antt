use Rattle.std.proofs.Common.{string_bytes}
use Rattle.journal_picture.specs.Scale.{rows_of}
use Rattle.journal_picture.specs.SvgBars.{lanes_svg}
use Rattle.journal_picture.specs.SvgMarks.{rows_svg, ticks_text}
use Rattle.journal_picture.specs.SvgPicture.{over_svg}
use Rattle.journal_picture.specs.Views.{view_of}
use Rattle.journal_picture.proofs.Written.{on_four}
use Rattle.journal_picture.proofs.svg.write_picture.Goals as goal

pub returns : goal.returns
returns c =
    let v = view_of c.args.drawing.now in
    let old = string_bytes c.args.text.now in
    let first = string_bytes c.write_rows.new.text in
    let second = string_bytes c.write_ticks.new.text in
    let third = string_bytes c.write_lanes.new.text in
    let fourth = string_bytes c.write_over.new.text in
    on_four c.write_over.result old first second third fourth (rows_svg v 0 (rows_of v)) (ticks_text v 0 v.list) (lanes_svg v 0 v.plan.harts)
    (over_svg v c.args.faulty c.args.words.now) c.in_ok-write_rows.ensures c.in_ok-write_ticks.ensures c.in_ok-write_lanes.ensures c.write_over.ensures
