use Rattle.std.proofs.Common.{◌≡◌, ◌+◌, ◌≤◌, length}
use Rattle.journal_text.specs.Reading.{lines_of, entries_of}
use Rattle.journal_text.proofs.Steps.{behind}
use Rattle.journal_text.proofs.read.entries_of.Given as goal

-- The entries so far, and then those of the rest.
abbrev pub invariant-loop-line : goal.invariant-loop-line
invariant-loop-line l = record {
  room : length l.list.items + length l.rest ≤ length l.text;
  same : entries_of l.plan 0 (lines_of l.text) ≡ behind l.list.items (entries_of l.plan (length l.list.items) (lines_of l.rest));
}

abbrev pub decreases-loop-line : goal.decreases-loop-line
decreases-loop-line l = length l.rest
