-- The output of a command, and its status.
use Rattle.std.specs.Prelude.{◌≡◌, ℕ, ◌≤◌, List, length, ◌++◌}
use Rattle.transfer_table.specs.Plan.{Plan}
use Rattle.transfer_table.specs.Journal.{IsComplete}
use Rattle.transfer_table.specs.declared.entry.Entry.{Entry}
use Rattle.journal_text.specs.JournalText.{journal_text}
use Rattle.array_tree.specs.Trees.{ProgramTree}
use Rattle.array_lang.specs.Spelled.{Spells}
use Rattle.disjoint_check.specs.Meaning.{IsAcceptedFor}
use Rattle.array_meaning.specs.Stores.{Store}
use Rattle.array_meaning.specs.Work.{final_store}
use Rattle.array_meaning.specs.Entered.{entered_of}
use Rattle.array_eval.specs.ArrayText.{array_text}
use Rattle.command_words.specs.declared.command.Command.{Command}
use Rattle.command_words.specs.declared.command.Command.TheVariants.{Run, Tally, Pipe, Solo, Audit, Make}
use Rattle.command_words.specs.Parts.{harts_in}
use Rattle.run_audit.specs.AuditText.{verdict_text}
use Rattle.lithe_call.specs.Summary.{summary_text}
use Rattle.run_audit.specs.declared.verdict.Verdict.{Verdict}
use Rattle.lithe_call.specs.Programs.{SpellAccepted, table_plan, made_text}
use Rattle.lithe_call.specs.Tallies.{SpellTallied}
use Rattle.lithe_call.specs.Pipelines.{SpellPiped}
use Rattle.lithe_call.specs.Inputs.{limit_of}
use Rattle.lithe_call.specs.Auditing.{HasVerdict, status_by, status_of_ending}
use Rattle.lithe_call.specs.declared.answer.Answer.{Answer}
use Rattle.lithe_call.specs.declared.status.Status.{Status}
use Rattle.lithe_call.specs.declared.status.Status.TheVariants.{Done, Refused}

-- The text of the array lines, followed by the journal.
abbrev pub output_text : ProgramTree → Plan → Store → List Entry → List ℕ
output_text program plan store journal = array_text program store ++ journal_text plan journal

-- The output of `run`: the arrays as the one-thread meaning leaves them, and a journal that is complete for the program's plan
-- and the sites that this meaning enters.
pub record IsRunOutput (program : ProgramTree) (harts : ℕ) (text : List ℕ) : Type 0 where
  pub journal : List Entry
  pub complete : IsComplete (table_plan program harts) (entered_of program) journal
  pub whole : text ≡ output_text program (table_plan program harts) (final_store program) journal

-- The output of `make`: the summary of such a run.
pub record IsSummary (program : ProgramTree) (harts : ℕ) (text : List ℕ) : Type 0 where
  pub journal : List Entry
  pub complete : IsComplete (table_plan program harts) (entered_of program) journal
  pub whole : text ≡ summary_text (table_plan program harts) (final_store program) journal

-- The output of a command for a program. `solo` writes only the arrays; `tally`, `pipe` and an audit don't run each accepted
-- program unchanged.
abbrev pub IsOutput : Command → ProgramTree → List ℕ → Type 0
IsOutput (Run harts) program text = IsRunOutput program harts text
IsOutput (Tally harts) program text = ⊥
IsOutput (Pipe harts) program text = ⊥
IsOutput Solo program text = text ≡ array_text program (final_store program)
IsOutput (Audit harts) program text = ⊥
IsOutput (Make seed size harts) program text = IsSummary program harts text

-- The text is the output of the command for the program that these bytes spell.
pub record IsRunOf (command : Command) (bytes text : List ℕ) : Type 0 where
  pub program : ProgramTree
  pub input : SpellAccepted (harts_in command) bytes program
  pub output : IsOutput command program text

-- The text is the output of `tally` for the program that these bytes spell: its arrays as the one-thread meaning of this same
-- program leaves them, and a journal that is complete for its plan and the sites that it enters.
pub record IsTallyOf (harts : ℕ) (bytes text : List ℕ) : Type 0 where
  pub program : ProgramTree
  pub input : SpellTallied harts bytes program
  pub output : IsRunOutput program harts text

-- The text is the output of `pipe` for the program that these bytes spell: an output that `run` may write for it.
pub record IsPipeOf (harts : ℕ) (bytes text : List ℕ) : Type 0 where
  pub program : ProgramTree
  pub input : SpellPiped harts bytes program
  pub output : IsRunOutput program harts text

-- The text is the line of the bytes' verdict, and the status is the verdict's.
pub record IsAuditOf (harts : ℕ) (bytes : List ℕ) (status : Status) (text : List ℕ) : Type 0 where
  pub verdict : Verdict
  pub has : HasVerdict harts bytes verdict
  pub same : status ≡ status_by verdict
  pub printed : text ≡ verdict_text verdict

-- The text is the output of the command for these bytes, with this status.
abbrev pub IsOutputOf : Command → List ℕ → Status → List ℕ → Type 0
IsOutputOf (Run harts) bytes status text = (status ≡ Done) × IsRunOf (Run harts) bytes text
IsOutputOf (Tally harts) bytes status text = (status ≡ Done) × IsTallyOf harts bytes text
IsOutputOf (Pipe harts) bytes status text = (status ≡ Done) × IsPipeOf harts bytes text
IsOutputOf Solo bytes status text = (status ≡ Done) × IsRunOf Solo bytes text
IsOutputOf (Audit harts) bytes status text = IsAuditOf harts bytes status text
IsOutputOf (Make seed size harts) bytes status text =
    (status ≡ Done) × IsRunOf (Make seed size harts) (made_text seed size) text

-- The answer is the output of the command for these bytes.
abbrev pub IsAnswer : Command → List ℕ → Answer → Type 0
IsAnswer command bytes answer =
    IsOutputOf command bytes (status_of_ending answer.ending) answer.text.items

-- The printed text of a generated program spells a program that is accepted for so many harts, or one that isn't.
abbrev pub EndsMade : ℕ → List ℕ → Status → Type 0
EndsMade harts text Done = (program : ProgramTree) × SpellAccepted harts text program
EndsMade harts text Refused =
    (program : ProgramTree) × Spells text program × (IsAcceptedFor program harts → ⊥)
EndsMade harts text status = ⊥

-- The command ends with this status for these bytes; `make` does so for any bytes.
abbrev pub EndsWith : Command → List ℕ → Status → Type 0
EndsWith (Run harts) bytes status =
    (status ≡ Done) × ((program : ProgramTree) × SpellAccepted harts bytes program)
EndsWith (Tally harts) bytes status =
    (status ≡ Done) × ((program : ProgramTree) × SpellTallied harts bytes program)
EndsWith (Pipe harts) bytes status =
    (status ≡ Done) × ((program : ProgramTree) × SpellPiped harts bytes program)
EndsWith Solo bytes status =
    (status ≡ Done) × ((program : ProgramTree) × SpellAccepted 1 bytes program)
EndsWith (Audit harts) bytes status =
    (length bytes ≤ limit_of (Audit harts))
    × ((verdict : Verdict) × HasVerdict harts bytes verdict × (status ≡ status_by verdict))
EndsWith (Make seed size harts) bytes status = EndsMade harts (made_text seed size) status
