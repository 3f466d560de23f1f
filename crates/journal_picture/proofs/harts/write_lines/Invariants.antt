use Rattle.std.proofs.Common.{◌≡◌, ◌++◌, drop, string_bytes}
use Rattle.journal_picture.specs.TextPicture.{hart_lines}
use Rattle.journal_picture.proofs.harts.write_lines.Given as goal

-- The text so far, and the lines of the other harts.
abbrev pub invariant-loop-hart : goal.invariant-loop-hart
invariant-loop-hart l =
    string_bytes l.text ++ hart_lines l.hart (drop l.hart l.travels) ≡ string_bytes l.fn.text ++ hart_lines 0 l.travels
