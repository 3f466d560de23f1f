-- The view that contracts have of compared array lines.
use Rattle.std.specs.Prelude.{ℕ, ◌≤◌}
use Rattle.journal_text.specs.Reading.{lines_of}
use Rattle.journal_text.specs.declared.fault.TextFault.{TextFault}
use Rattle.journal_text.specs.declared.fault.TextFault.TheVariants.{BadLine, BadNumber, WrongCount, Memory}
use Rattle.run_audit.specs.declared.auditing.ArrayLines.{ArrayLines}
use Rattle.run_audit.specs.Audit.{Compared}

-- The view that contracts have of compared array lines, with the rest of the text cut into lines.
abbrev pub compared_seen : ArrayLines → Compared
compared_seen found = record {
  differs = found.differs;
  lines = found.lines;
  rest = lines_of found.rest.now;
}

-- The line of a fault is at most this, if it has a line.
abbrev pub IsWithin : ℕ → TextFault → Type 0
IsWithin most (BadLine line) = line ≤ most
IsWithin most (BadNumber line) = line ≤ most
IsWithin most (WrongCount said found) = Unit {0}
IsWithin most Memory = Unit {0}
