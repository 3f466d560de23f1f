use Rattle.std.proofs.Common.{◌≡◌, ◌++◌, drop}
use Rattle.journal_picture.specs.SvgPicture.{escaped}
use Rattle.journal_picture.proofs.svg.add_escaped.Given as goal

-- The text so far, and the other bytes as XML has them.
abbrev pub invariant-loop-byte : goal.invariant-loop-byte
invariant-loop-byte l = l.whole.items ++ escaped (drop l.byte-index l.verdict) ≡ l.fn.whole.items ++ escaped l.verdict
