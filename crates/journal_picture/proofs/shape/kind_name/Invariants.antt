use Rattle.std.proofs.Common.{◌≡◌, ◌++◌, drop, string_bytes}
use Rattle.std.specs.List.{take_while}
use Rattle.journal_picture.specs.Kinds.{is_letter, kind_text}
use Rattle.journal_picture.proofs.shape.kind_name.Given as goal

-- The letters so far, and the others.
abbrev pub invariant-loop-i : goal.invariant-loop-i
invariant-loop-i l = string_bytes l.name ++ take_while is_letter (drop l.i l.kind.letters) ≡ kind_text l.kind
