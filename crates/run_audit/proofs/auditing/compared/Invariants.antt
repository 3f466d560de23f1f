use Rattle.std.proofs.Common.{◌≡◌, ◌+◌, ◌≤◌, length}
use Rattle.journal_text.specs.Reading.{lines_of}
use Rattle.run_audit.specs.Audit.{compared}
use Rattle.run_audit.proofs.Comparing.{earlier}
use Rattle.run_audit.proofs.auditing.compared.Given as goal

-- The result so far, and then the result for the remaining lines.
abbrev pub invariant-loop-wanted : goal.invariant-loop-wanted
invariant-loop-wanted l = record {
  room : l.lines + length l.rest ≤ length l.output;
  same : compared 0 (lines_of l.wanted) (lines_of l.output) ≡ earlier l.differs (compared l.lines (lines_of l.left) (lines_of l.rest));
}

abbrev pub decreases-loop-wanted : goal.decreases-loop-wanted
decreases-loop-wanted l = length l.left
