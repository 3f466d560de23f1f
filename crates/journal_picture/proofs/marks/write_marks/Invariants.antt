use Rattle.std.proofs.Common.{◌≡◌, ◌++◌, drop, string_bytes}
use Rattle.journal_picture.specs.SvgMarks.{marks_text}
use Rattle.journal_picture.specs.Views.{view_of}
use Rattle.journal_picture.proofs.marks.write_marks.Given as goal

-- The text so far, and the marks of the other entries.
abbrev pub invariant-loop-k : goal.invariant-loop-k
invariant-loop-k l =
    string_bytes l.text ++ marks_text (view_of l.drawing) l.k (drop l.k l.drawing.list.now) ≡ string_bytes l.fn.text ++ marks_text (view_of l.drawing) 0 l.drawing.list.now
