use Rattle.std.proofs.Common.{◌≡◌, ◌++◌, ◌-◌, string_bytes}
use Rattle.journal_picture.specs.SvgMarks.{harts_svg}
use Rattle.journal_picture.proofs.axis.write_harts.Given as goal

-- The text so far, and the names of the other harts.
abbrev pub invariant-loop-hart : goal.invariant-loop-hart
invariant-loop-hart l =
    string_bytes l.text ++ harts_svg l.top l.hart (l.drawing.board.plan.harts - l.hart) ≡ string_bytes l.fn.text ++ harts_svg l.top 0 l.drawing.board.plan.harts
