use Rattle.std.proofs.Common.{◌≡◌, ◌++◌, drop, string_bytes}
use Rattle.journal_picture.specs.SvgMarks.{ticks_text}
use Rattle.journal_picture.specs.Views.{view_of}
use Rattle.journal_picture.proofs.axis.write_ticks.Given as goal

-- The text so far, and what is at the other entries.
abbrev pub invariant-loop-k : goal.invariant-loop-k
invariant-loop-k l =
    string_bytes l.text ++ ticks_text (view_of l.drawing) l.k (drop l.k l.drawing.list.now) ≡ string_bytes l.fn.text ++ ticks_text (view_of l.drawing) 0 l.drawing.list.now
