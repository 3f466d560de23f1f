use Rattle.std.proofs.Common.{◌≡◌, ◌++◌, drop, string_bytes}
use Rattle.journal_picture.specs.SvgTable.{hart_rows}
use Rattle.journal_picture.proofs.harts.write_hart_rows.Given as goal

-- The text so far, and the lines of the other harts.
abbrev pub invariant-loop-hart : goal.invariant-loop-hart
invariant-loop-hart l =
    string_bytes l.text ++ hart_rows l.top l.hart (drop l.hart l.travels) ≡ string_bytes l.fn.text ++ hart_rows l.top 0 l.travels
