use Rattle.std.proofs.Common.{string_bytes}
use Rattle.journal_picture.specs.SvgPicture.{frame_svg, picture_svg, shown_svg, verdict_start}
use Rattle.journal_picture.specs.SvgTable.{tables_svg}
use Rattle.journal_picture.specs.Views.{view_of}
use Rattle.journal_picture.proofs.Written.{on_four, on_pushed}
use Rattle.journal_picture.proofs.svg.write_shown.Goals as goal

pub returns : goal.returns
unfolding shown_svg
returns c =
    let v = view_of c.args.drawing.now in
    let old = string_bytes c.args.text.now in
    let first = string_bytes c.write_frame.new.text in
    let second = string_bytes c.write_picture.new.text in
    let third = string_bytes c.write_tables.new.text in
    let fourth = string_bytes c.push_str.new.self in
    on_four c.push_str.result old first second third fourth (frame_svg v) (picture_svg v c.args.faulty c.args.words.now) (tables_svg v) verdict_start
    c.in_ok-write_frame.ensures c.in_ok-write_picture.ensures c.in_ok-write_tables.ensures
    (on_pushed c.push_str.result fourth third verdict_start c.push_str.ensures.bytes)
