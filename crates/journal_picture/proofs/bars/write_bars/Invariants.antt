use Rattle.std.proofs.Common.{◌≡◌, ◌++◌, drop, string_bytes}
use Rattle.journal_picture.specs.SvgBars.{bars_text}
use Rattle.journal_picture.specs.Views.{view_of}
use Rattle.journal_picture.proofs.bars.write_bars.Given as goal

-- The text so far, and the other bars.
abbrev pub invariant-loop-stay : goal.invariant-loop-stay
invariant-loop-stay l =
    string_bytes l.text ++ bars_text (view_of l.drawing) (drop l.stay-index l.stays) ≡ string_bytes l.fn.text ++ bars_text (view_of l.drawing) l.stays
