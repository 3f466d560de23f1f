use Rattle.std.proofs.Common.{◌≡◌, ◌++◌, ◌-◌, ◌+◌, string_bytes}
use Rattle.journal_picture.specs.SvgBars.{bar_text, parts_text}
use Rattle.journal_picture.specs.Views.{view_of}
use Rattle.journal_picture.proofs.bars.write_bar.Given as goal

-- The text so far, and the other parts.
abbrev pub invariant-loop-i : goal.invariant-loop-i
invariant-loop-i l =
    string_bytes l.text ++ parts_text (view_of l.drawing) l.stay (l.first + l.i) (l.count - l.i) ≡ string_bytes l.fn.text ++ bar_text (view_of l.drawing) l.stay
