use Rattle.std.proofs.Common.{◌≡◌, ◌++◌, ◌-◌, ◌+◌, ◌<◌, string_bytes, rules}
use Rattle.journal_picture.specs.Scale.{lane_y}
use Rattle.journal_picture.specs.SvgMarks.{hart_at, harts_svg}
use Rattle.journal_picture.proofs.Turns.{harts_more}
use Rattle.journal_picture.proofs.Written.{turn}
use Rattle.journal_picture.proofs.axis.write_harts.Goals as goal

pub loop-hart-preserved : goal.loop-hart-preserved
loop-hart-preserved c =
    let top = c.args.top in
    let n = c.args.drawing.now.board.plan.harts in
    let i = c.loop-hart.hart in
    let within : i < n = search rules in
    let wrote : string_bytes c.write_hart_at.new.text ≡ string_bytes c.loop-hart.text ++ hart_at (lane_y top i + 34) i = search rules in
    turn (string_bytes c.loop-hart.text) (string_bytes c.write_hart_at.new.text) (hart_at (lane_y top i + 34) i) (harts_svg top i (n - i))
    (harts_svg top (i + 1) (n - (i + 1))) _ c.loop-hart.invariant (harts_more top n i within) wrote
