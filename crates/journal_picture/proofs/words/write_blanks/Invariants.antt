use Rattle.std.proofs.Common.{◌≡◌, ◌++◌, ◌-◌, string_bytes}
use Rattle.journal_picture.specs.TextPicture.{blanks}
use Rattle.journal_picture.proofs.words.write_blanks.Given as goal

-- The text so far, and the blanks to be added.
abbrev pub invariant-loop-i : goal.invariant-loop-i
invariant-loop-i l = string_bytes l.text ++ blanks (l.count - l._i) ≡ string_bytes l.fn.text ++ blanks l.count
