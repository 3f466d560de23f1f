-- What a picture of an output shows.
use Rattle.std.specs.Prelude.{ℕ, Bool, nat_lt, if◌then◌else◌, List, [], length, drop, Result, Ok, Err}
use Rattle.transfer_table.specs.Plan.{Plan}
use Rattle.transfer_table.specs.declared.entry.Entry.{Entry}
use Rattle.journal_text.specs.Reading.{lines_of, journal_in, and_then}
use Rattle.journal_text.specs.declared.fault.TextFault.{TextFault}
use Rattle.journal_text.specs.declared.fault.TextFault.TheVariants.{BadLine}
use Rattle.array_tree.specs.Trees.{ProgramTree}
use Rattle.array_meaning.specs.Work.{final_store}
use Rattle.array_meaning.specs.Entered.{entered_of}
use Rattle.array_eval.specs.ArrayText.{array_text}
use Rattle.run_audit.specs.Audit.{audit_of}
use Rattle.run_audit.specs.AuditText.{verdict_text}
use Rattle.run_audit.specs.declared.verdict.Verdict.{Verdict}
use Rattle.journal_picture.specs.declared.shape.Kind.{Kind}
use Rattle.journal_picture.specs.declared.shape.Shape.{Shape}
use Rattle.journal_picture.specs.TextPicture.{text_picture}
use Rattle.journal_picture.specs.SvgPicture.{svg_picture}
use Rattle.picture_call.specs.Shapes.{shapes_of}
use Rattle.picture_call.specs.declared.picture.Form.{Form}
use Rattle.picture_call.specs.declared.picture.Form.TheVariants.{Text, Svg}

-- The lines behind n lines, each of which a newline ends. If there are fewer lines, the first line is bad.
abbrev pub behind : ℕ → List (List ℕ) → Result (List (List ℕ)) TextFault
behind n lines = if nat_lt n (length lines) then Ok (drop n lines) else Err (BadLine 1)

-- The journal of an output, which stands behind a line for each array, or the first fault of the journal's text.
abbrev pub journal_behind : Plan → ℕ → List ℕ → Result (List Entry) TextFault
journal_behind plan arrays output = and_then (journal_in plan) (behind arrays (lines_of output))

-- The entries of a journal that was read; no entries if it has a fault.
abbrev pub or_none : Result (List Entry) TextFault → List Entry
or_none (Ok list) = list
or_none (Err fault) = []

-- The entries of an output's journal; no entries if the output has no journal.
abbrev pub entries_behind : Plan → ℕ → List ℕ → List Entry
entries_behind plan arrays output = or_none (journal_behind plan arrays output)

-- The picture of a list of entries in this form, by the sites that are meant to be entered, with a line that reports a verdict.
abbrev pub drawn_in : Form → Plan → List Bool → List Shape → List Entry → List ℕ → List ℕ
drawn_in Text plan meant shapes list reported = text_picture plan meant shapes list reported
drawn_in Svg plan meant shapes list reported = svg_picture plan meant shapes list reported

-- A verdict, and a picture with the verdict as a line.
pub record Pictured : Type 0 where
  pub verdict : Verdict
  pub text : List ℕ

-- The verdict, and the picture of these entries in this form.
abbrev pub pictured : Form → Plan → List Bool → List Shape → Verdict → List Entry → Pictured
pictured form plan meant shapes verdict list =
    record { verdict = verdict; text = drawn_in form plan meant shapes list (verdict_text verdict) }

-- The verdict, and the picture of the journal in an output of this program.
abbrev pub picture_by : Form → Kind → ProgramTree → Plan → List ℕ → Verdict → Pictured
picture_by form teams program plan output verdict =
    pictured form plan (entered_of program) (shapes_of teams program) verdict
    (entries_behind plan (length program.arrays) output)

-- The verdict of the audit on an output of a program's run by this plan, and the picture of the output's journal, with schedulers
-- of the kind `teams` for the program's teams. If the output's text has a fault, the first fault, as the audit reports it.
abbrev pub picture_of : Form → Kind → ProgramTree → Plan → List ℕ → Result Pictured TextFault
picture_of form teams program plan output =
    and_then (λ verdict. Ok (picture_by form teams program plan output verdict))
    (audit_of plan (entered_of program) (array_text program (final_store program)) output)
