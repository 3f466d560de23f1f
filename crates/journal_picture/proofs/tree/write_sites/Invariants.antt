use Rattle.std.proofs.Common.{◌≡◌, ◌++◌, ◌+◌, drop, string_bytes}
use Rattle.journal_picture.specs.TextPicture.{site_lines}
use Rattle.journal_picture.specs.Views.{view_of}
use Rattle.journal_picture.proofs.tree.write_sites.Given as goal

-- The text so far, and the lines of the other sites.
abbrev pub invariant-loop-i : goal.invariant-loop-i
invariant-loop-i l =
    string_bytes l.text ++ site_lines (view_of l.drawing) (l.i + 1) (drop l.i l.drawing.shapes.now)
    ≡ string_bytes l.fn.text ++ site_lines (view_of l.drawing) 1 l.drawing.shapes.now
