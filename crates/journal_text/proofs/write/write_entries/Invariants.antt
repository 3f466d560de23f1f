use Rattle.std.proofs.Common.{◌≡◌, ◌++◌, drop, string_bytes}
use Rattle.journal_text.specs.JournalText.{journal_text, lines_text}
use Rattle.journal_text.proofs.write.write_entries.Given as goal

-- The text so far, and the lines of the rest.
abbrev pub invariant-loop-place : goal.invariant-loop-place
invariant-loop-place l = string_bytes l.text ++ lines_text l.plan l.place (drop l.place l.list) ≡ journal_text l.plan l.list
