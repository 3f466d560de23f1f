use Rattle.std.proofs.Common.{◌≡◌, ◌++◌, ◌+◌, ◌-◌, string_bytes}
use Rattle.transfer_table.specs.Plan.{site_count}
use Rattle.journal_picture.specs.SvgTable.{rows_from}
use Rattle.journal_picture.specs.Views.{view_of}
use Rattle.journal_picture.proofs.table.write_rows.Given as goal

-- The text so far, and the lines of the other sites.
abbrev pub invariant-loop-i : goal.invariant-loop-i
invariant-loop-i l =
    string_bytes l.text ++ rows_from (view_of l.drawing) (l.i + 1) (site_count l.drawing.board.plan - l.i)
    ≡ string_bytes l.fn.text ++ rows_from (view_of l.drawing) 1 (site_count l.drawing.board.plan)
