use Rattle.std.proofs.Common.{◌≡◌, drop}
use Rattle.std.specs.List.{list_all}
use Rattle.journal_picture.specs.Kinds.{is_letter}
use Rattle.journal_picture.proofs.shape.are_letters.Given as goal

-- The bytes so far are letters.
abbrev pub invariant-loop-byte : goal.invariant-loop-byte
invariant-loop-byte l = list_all is_letter (drop l.byte-index l.bytes) ≡ list_all is_letter l.bytes
