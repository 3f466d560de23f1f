use Rattle.std.proofs.Common.{◌≡◌, ◌++◌, OnOk, length, string_bytes, rules}
use Rattle.journal_picture.specs.Strip.{strip_of}
use Rattle.journal_picture.specs.TextPicture.{bands_text, band_count, harts_text, lanes_of, tree_text, legend_text}
use Rattle.journal_picture.specs.Views.{view_of}
use Rattle.journal_picture.proofs.Written.{on_four, on_pushed}
use Rattle.journal_picture.proofs.text.write_shown.Goals as goal

pub returns : goal.returns
returns c =
    let v = view_of c.args.drawing.now in
    let old = string_bytes c.args.text.now in
    let first = string_bytes c.write_bands.new.text in
    let second = string_bytes c.write_tree.new.text in
    let third = string_bytes c.write_harts_text.new.text in
    let fourth = string_bytes c.push_str.new.self in
    let all = bands_text c.args.faulty v.list (lanes_of v.plan v.list 0 v.plan.harts) (strip_of v.plan v.list) 0 (band_count (length v.list)) in
    let bands : first ≡ old ++ all = search rules in
    let harts : third ≡ second ++ harts_text v.travels = search rules in
    let line : OnOk c.push_str.result (fourth ≡ third ++ legend_text) = on_pushed c.push_str.result fourth third legend_text c.push_str.ensures.bytes in
    on_four c.push_str.result old first second third fourth all (tree_text v) (harts_text v.travels) legend_text bands c.in_ok-write_tree.ensures harts line
