use Rattle.std.proofs.Common.{◌≡◌, ◌++◌, drop, string_bytes}
use Rattle.std.specs.List.{flat_map}
use Rattle.std.specs.Prelude.{codes}
use Rattle.journal_picture.specs.TextPicture.{cell, word_of}
use Rattle.journal_picture.proofs.text.write_entries_line.Given as goal

-- The text so far, and the words of the other entries.
abbrev pub invariant-loop-entry : goal.invariant-loop-entry
invariant-loop-entry l =
    string_bytes l.text ++ flat_map (λ e. cell (word_of l.line e)) (drop l.entry-index l.shown)
    ≡ (string_bytes l.fn.text ++ codes "         ") ++ flat_map (λ e. cell (word_of l.line e)) l.shown
