use Rattle.std.proofs.Common.{◌≡◌, ◌++◌, length, string_bytes, rules}
use Rattle.transfer_table.specs.Plan.{site_count}
use Rattle.journal_picture.specs.Scale.{rows_of}
use Rattle.journal_picture.specs.SvgPicture.{head_svg, title_svg, note_svg, legend_svg}
use Rattle.journal_picture.specs.Views.{view_of}
use Rattle.journal_picture.proofs.Written.{on_four}
use Rattle.journal_picture.proofs.svg.write_frame.Goals as goal

pub returns : goal.returns
returns c =
    let v = view_of c.args.drawing.now in
    let old = string_bytes c.args.text.now in
    let first = string_bytes c.write_head.new.text in
    let second = string_bytes c.write_title.new.text in
    let third = string_bytes c.write_note.new.text in
    let fourth = string_bytes c.write_legend.new.text in
    let words = title_svg v.plan.harts (site_count v.plan) (length v.list) in
    let title : second ≡ first ++ words = search rules in
    let note : third ≡ second ++ note_svg (rows_of v) = search rules in
    on_four c.write_legend.result old first second third fourth (head_svg v) words (note_svg (rows_of v)) (legend_svg v)
    c.in_ok-write_head.ensures title note c.write_legend.ensures
