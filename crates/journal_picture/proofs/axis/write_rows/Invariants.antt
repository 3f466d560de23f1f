use Rattle.std.proofs.Common.{◌≡◌, ◌++◌, ◌-◌, string_bytes}
use Rattle.journal_picture.specs.Scale.{rows_of}
use Rattle.journal_picture.specs.SvgMarks.{rows_svg}
use Rattle.journal_picture.specs.Views.{view_of}
use Rattle.journal_picture.proofs.axis.write_rows.Given as goal

-- The text so far, and the names of the other rows.
abbrev pub invariant-loop-row : goal.invariant-loop-row
invariant-loop-row l =
    string_bytes l.text ++ rows_svg (view_of l.drawing) l.row (l.count - l.row) ≡ string_bytes l.fn.text ++ rows_svg (view_of l.drawing) 0 (rows_of (view_of l.drawing))
