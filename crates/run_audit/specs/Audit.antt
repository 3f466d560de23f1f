-- The result of an audit of an output: whether its array lines are the program's, and then whether its journal is complete for
-- the plan and the sites that are meant to be entered.
use Rattle.std.specs.Prelude.{ℕ, ◌+◌, Bool, List, ◌∷◌, length, Option, Some, None, Result, Ok, Err, if◌then◌else◌}
use Rattle.transfer_table.specs.Plan.{Plan}
use Rattle.transfer_table.specs.Journal.{first_fault_of}
use Rattle.transfer_table.specs.declared.entry.Entry.{Entry}
use Rattle.transfer_table.specs.declared.fault.Fault.{Fault}
use Rattle.journal_text.specs.Reading.{lines_of, is_word, and_then, journal_in}
use Rattle.journal_text.specs.declared.fault.TextFault.{TextFault}
use Rattle.journal_text.specs.declared.fault.TextFault.TheVariants.{BadLine, BadNumber, WrongCount, Memory}
use Rattle.run_audit.specs.declared.verdict.Verdict.{Verdict}
use Rattle.run_audit.specs.declared.verdict.Verdict.TheVariants as verdict

-- The result of the comparison: the first line that differs, the number of array lines, and the lines of the journal.
pub record Compared : Type 0 where
  pub differs : Option ℕ
  pub lines : ℕ
  pub rest : List (List ℕ)

-- The first line that differs: an earlier one, or else this one if it isn't the wanted line.
abbrev pub earliest : Option ℕ → ℕ → List ℕ → List ℕ → Option ℕ
earliest (Some first) number wanted found = Some first
earliest None number wanted found = if is_word wanted found then None else Some number

-- The comparison goes on after this line, which is the wanted line or differs.
abbrev pub after_line : ℕ → List ℕ → List ℕ → Compared → Compared
after_line number wanted found rest =
    record rest { differs = if is_word wanted found then rest.differs else Some (number + 1) }

-- Compares the wanted lines with those of an output, after so many lines. After the last newline of the wanted lines the
-- journal begins. A line that is missing, or doesn't end in a newline, is bad.
abbrev pub compared : ℕ → List (List ℕ) → List (List ℕ) → Result Compared TextFault
compared number (wanted ∷ next ∷ more) (found ∷ after ∷ others) =
    and_then (λ rest. Ok (after_line number wanted found rest))
    (compared (number + 1) (next ∷ more) (after ∷ others))
compared number (wanted ∷ next ∷ more) found = Err (BadLine (number + 1))
compared number last found = Ok record { differs = None; lines = number; rest = found }

-- A fault of the journal, with its line in the output.
abbrev pub reported_behind : ℕ → TextFault → TextFault
reported_behind lines (BadLine line) = BadLine (line + lines)
reported_behind lines (BadNumber line) = BadNumber (line + lines)
reported_behind lines (WrongCount said found) = WrongCount said found
reported_behind lines Memory = Memory

-- The number of the lines before the text is added to the line of its fault.
abbrev pub behind : {A : Type 0} → ℕ → Result A TextFault → Result A TextFault
behind lines (Ok x) = Ok x
behind lines (Err fault) = Err (reported_behind lines fault)

-- The verdict is Legal if the list of entries has no fault, and otherwise Illegal.
abbrev pub of_fault : Option Fault → ℕ → Verdict
of_fault None entries = verdict.Legal entries
of_fault (Some fault) entries = verdict.Illegal fault

-- The verdict: the first line that differs, else the first fault of the journal, else the number of its entries.
abbrev pub verdict_of : Plan → List Bool → Option ℕ → List Entry → Verdict
verdict_of plan meant (Some line) list = verdict.Differs line
verdict_of plan meant None list = of_fault (first_fault_of plan meant list) (length list)

-- The verdict on compared array lines, by the journal after them.
abbrev pub audited : Plan → List Bool → Compared → Result Verdict TextFault
audited plan meant found = and_then (λ list. Ok (verdict_of plan meant found.differs list))
    (behind found.lines (journal_in plan found.rest))

-- The verdict on an output, by the sites that are meant to be entered and the wanted array lines; or the first fault of its
-- text.
abbrev pub audit_of : Plan → List Bool → List ℕ → List ℕ → Result Verdict TextFault
audit_of plan meant wanted output =
    and_then (audited plan meant) (compared 0 (lines_of wanted) (lines_of output))
