use Rattle.std.proofs.Common.{◌≡◌, ◌++◌, ◌+◌, drop, string_bytes}
use Rattle.std.specs.Prelude.{codes}
use Rattle.journal_picture.specs.TextPicture.{numbers_text}
use Rattle.journal_picture.proofs.text.write_numbers_line.Given as goal

-- The text so far, and the other numbers.
abbrev pub invariant-loop-i : goal.invariant-loop-i
invariant-loop-i l =
    string_bytes l.text ++ numbers_text (l.at + l.i) (drop l.i l.shown) ≡ (string_bytes l.fn.text ++ codes "    entry") ++ numbers_text l.at l.shown
