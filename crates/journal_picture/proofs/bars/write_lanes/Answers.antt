use Rattle.std.proofs.Common.{◌≡◌, ◌++◌, ◌-◌, ◌+◌, ◌<◌, string_bytes, rules}
use Rattle.journal_picture.specs.Stays.{stays_of}
use Rattle.journal_picture.specs.SvgBars.{bars_text, lanes_svg}
use Rattle.journal_picture.specs.Views.{view_of}
use Rattle.journal_picture.proofs.Turns.{svg_lanes_more}
use Rattle.journal_picture.proofs.Written.{turn}
use Rattle.journal_picture.proofs.bars.write_lanes.Goals as goal

pub loop-hart-preserved : goal.loop-hart-preserved
loop-hart-preserved c =
    let v = view_of c.args.drawing.now in
    let n = v.plan.harts in
    let h = c.loop-hart.hart in
    let within : h < n = search rules in
    let wrote : string_bytes c.write_bars.new.text ≡ string_bytes c.loop-hart.text ++ bars_text v (stays_of v.plan h v.list) = search rules in
    turn (string_bytes c.loop-hart.text) (string_bytes c.write_bars.new.text) (bars_text v (stays_of v.plan h v.list))
    (lanes_svg v h (n - h)) (lanes_svg v (h + 1) (n - (h + 1))) _ c.loop-hart.invariant (svg_lanes_more v n h within) wrote
