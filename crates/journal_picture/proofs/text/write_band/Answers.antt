use Rattle.std.proofs.Common.{◌≡◌, ◌++◌, ◌+◌, OnOk, nat_le, ◌&&◌, length, take, drop, string_bytes, rules}
use Rattle.journal_picture.specs.TextPicture.{numbers_line, deed_lines, lanes_text, strip_lines}
use Rattle.journal_picture.proofs.Written.{on_four}
use Rattle.journal_picture.proofs.text.write_band.Goals as goal

pub returns : goal.returns
returns c =
    let at = c.args.at in
    let es = c.args.drawing.now.list.now in
    let shown = take 14 (drop at es) in
    let old = string_bytes c.args.text.now in
    let first = string_bytes c.write_numbers_line.new.text in
    let second = string_bytes c.write_deed_lines.new.text in
    let third = string_bytes c.write_lanes.new.text in
    let fourth = string_bytes c.write_strip_lines.new.text in
    let numbers = numbers_line (c.args.faulty && nat_le (length es) (at + 14)) at shown in
    let strip = strip_lines (take 15 (drop at c.args.strip.now)) in
    let head : first ≡ old ++ numbers = search rules in
    let deeds : second ≡ first ++ deed_lines shown = search rules in
    let last : OnOk c.write_strip_lines.result (fourth ≡ third ++ strip) = search rules in
    on_four c.write_strip_lines.result old first second third fourth numbers (deed_lines shown) (lanes_text at 0 c.args.lanes.now) strip
    head deeds c.in_ok-write_lanes.ensures last
