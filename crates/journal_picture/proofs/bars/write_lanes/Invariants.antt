use Rattle.std.proofs.Common.{◌≡◌, ◌++◌, ◌-◌, string_bytes}
use Rattle.journal_picture.specs.SvgBars.{lanes_svg}
use Rattle.journal_picture.specs.Views.{view_of}
use Rattle.journal_picture.proofs.bars.write_lanes.Given as goal

-- The text so far, and the bars of the other harts.
abbrev pub invariant-loop-hart : goal.invariant-loop-hart
invariant-loop-hart l =
    string_bytes l.text ++ lanes_svg (view_of l.drawing) l.hart (l.drawing.board.plan.harts - l.hart) ≡ string_bytes l.fn.text ++ lanes_svg (view_of l.drawing) 0 l.drawing.board.plan.harts
