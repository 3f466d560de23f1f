-- Why there is no picture.
use Rattle.std.specs.Prelude.{◌≡◌, ◌≢◌, ◌⊎◌, ℕ, ◌<◌, List, length, Option, Some, None, Err}
use Rattle.outside_io.specs.Outside.{Rose}
use Rattle.array_tree.specs.Trees.{ProgramTree}
use Rattle.transfer_table.specs.Plan.{Plan}
use Rattle.array_meaning.specs.Bounds.{most_bytes}
use Rattle.array_meaning.specs.Work.{final_store}
use Rattle.array_meaning.specs.Entered.{entered_of}
use Rattle.array_eval.specs.ArrayText.{array_text}
use Rattle.disjoint_check.specs.FaultOf.{check_fault_of}
use Rattle.journal_text.specs.declared.fault.TextFault.{TextFault}
use Rattle.journal_text.specs.declared.fault.TextFault.TheVariants as text
use Rattle.run_audit.specs.Parts.{most_audited}
use Rattle.run_audit.specs.AuditText.{text_fault_text}
use Rattle.run_audit.specs.Audit.{audit_of}
use Rattle.lithe_call.specs.Auditing.{HasParts}
use Rattle.lithe_call.specs.Faults.{SpellNothing, HasNoMark, IsRefused, IsPrintedFault, IsUntallied, IsUnpiped}
use Rattle.lithe_call.specs.Programs.{table_plan}
use Rattle.lithe_call.specs.Printing.{GivesWithin, GivesMore}
use Rattle.lithe_call.specs.declared.fault.Fault.{Fault}
use Rattle.lithe_call.specs.declared.fault.Fault.TheVariants as fault
use Rattle.picture_call.specs.declared.runner.Runner.{Runner}
use Rattle.picture_call.specs.declared.runner.Runner.TheVariants.{Run, Tally, Pipe}
use Rattle.picture_call.specs.Pictures.{IsRunBy, SpellRun, command_of}
use Rattle.picture_call.specs.Words.{parsed_run}

-- The bytes are no output's text for the program with this plan; the line reports their first fault, which isn't an allocation
-- failure.
pub record IsNoOutput (plan : Plan) (program : ProgramTree) (output line : List ℕ) : Type 0 where
  pub fault : TextFault
  pub found : audit_of plan (entered_of program) (array_text program (final_store program)) output ≡ Err fault
  pub real : fault ≢ text.Memory
  pub printed : line ≡ text_fault_text fault

-- The command refuses the program, and the line is the one that it writes.
abbrev pub IsRefusedBy : Runner → ℕ → ProgramTree → List ℕ → Type 0
IsRefusedBy Run harts program line = IsPrintedFault (check_fault_of program harts) program line
IsRefusedBy Tally harts program line = IsUntallied harts program line
IsRefusedBy Pipe harts program line = IsUnpiped harts program line

-- The bytes are no output's text for the program with this plan, as the fault reports; or an allocation failed.
abbrev pub ReportsNoOutput : Plan → ProgramTree → List ℕ → Fault → Type 0
ReportsNoOutput plan program output (fault.Syntax line) = IsNoOutput plan program output line.items
ReportsNoOutput plan program output fault.Memory = Unit {0}
ReportsNoOutput plan program output why = ⊥

-- The fault reports why the program and the output have no picture, or an allocation failed.
abbrev pub ReportsNoPicture : Runner → ℕ → ProgramTree → List ℕ → Fault → Type 0
ReportsNoPicture runner harts program output (fault.Syntax line) =
    IsRunBy runner harts program × IsNoOutput (table_plan program harts) program output line.items
ReportsNoPicture runner harts program output (fault.Refused line) = IsRefusedBy runner harts program line.items
ReportsNoPicture runner harts program output fault.Memory = Unit {0}
ReportsNoPicture runner harts program output why = ⊥

-- A first part that spells a program that the command runs, and a second that is no output's text.
pub record AreNoOutput (runner : Runner) (harts : ℕ) (line first second : List ℕ) : Type 0 where
  pub program : ProgramTree
  pub input : SpellRun runner harts first program
  pub is : IsNoOutput (table_plan program harts) program second line

-- The first part spells no program, or the second is no output's text.
abbrev pub AreNoText : Runner → ℕ → List ℕ → List ℕ → List ℕ → Type 0
AreNoText runner harts line first second = SpellNothing first line ⊎ AreNoOutput runner harts line first second

-- The command refuses the program of the first part, and this is the line that the command then writes.
abbrev pub AreRefused : Runner → ℕ → List ℕ → List ℕ → List ℕ → Type 0
AreRefused runner harts line first second = IsRefused (command_of runner harts) first line

-- These parts have no picture, for this cause.
abbrev pub HaveNoPicture : Runner → ℕ → List ℕ → List ℕ → Fault → Type 0
HaveNoPicture runner harts first second (fault.Syntax line) = AreNoText runner harts line.items first second
HaveNoPicture runner harts first second (fault.Refused line) = AreRefused runner harts line.items first second
HaveNoPicture runner harts first second fault.Memory = Unit {0}
HaveNoPicture runner harts first second why = ⊥

-- The bytes have no line `%%`, or their parts are no text of a program and of an output.
abbrev pub HasNoText : Runner → ℕ → List ℕ → List ℕ → Type 0
HasNoText runner harts bytes line = HasNoMark bytes line ⊎ HasParts (AreNoText runner harts line) bytes

-- The command refuses the program of the bytes.
abbrev pub HasRefused : Runner → ℕ → List ℕ → List ℕ → Type 0
HasRefused runner harts bytes line = HasParts (AreRefused runner harts line) bytes

-- The program's part of the bytes is too long.
abbrev pub IsLong : List ℕ → Type 0
IsLong bytes = HasParts (λ first second. most_bytes < length first) bytes

-- These bytes have no picture, for this cause.
abbrev pub HasNoPicture : Runner → ℕ → List ℕ → Fault → Type 0
HasNoPicture runner harts bytes fault.Usage = ⊥
HasNoPicture runner harts bytes fault.TooLong = IsLong bytes
HasNoPicture runner harts bytes fault.ReadFault = ⊥
HasNoPicture runner harts bytes (fault.Syntax line) = HasNoText runner harts bytes line.items
HasNoPicture runner harts bytes (fault.Refused line) = HasRefused runner harts bytes line.items
HasNoPicture runner harts bytes fault.Memory = Unit {0}

-- The words request no picture, or an allocation failed while they were read.
abbrev pub IsUnparsed : List (List ℕ) → Fault → Type 0
IsUnparsed words fault.Usage = parsed_run words ≡ None
IsUnparsed words fault.Memory = Unit {0}
IsUnparsed words why = ⊥

-- The line reports why the bytes that the source gave to its end aren't what the words' command takes, or why it refuses them.
pub record IsReportedBy (IsSo : Runner → ℕ → List ℕ → List ℕ → Type 0) (words : List (List ℕ))
    (left left' : Option (List ℕ)) (line : List ℕ) : Type 0 where
  pub runner : Runner
  pub harts : ℕ
  pub parsed : parsed_run words ≡ Some (runner, harts)
  pub bytes : List ℕ
  pub given : GivesWithin most_audited left bytes left'
  pub is : IsSo runner harts bytes line

-- The source gave more bytes than an audit may have, or the program's part of them is too long.
pub record GivesLong (words : List (List ℕ)) (left left' : Option (List ℕ)) : Type 0 where
  pub runner : Runner
  pub harts : ℕ
  pub parsed : parsed_run words ≡ Some (runner, harts)
  pub longer : GivesMore left most_audited left'
      ⊎ ((bytes : List ℕ) × GivesWithin most_audited left bytes left' × IsLong bytes)

-- The source failed while words that request a picture were served, by its count of faults before and after.
pub record FailsFor (words : List (List ℕ)) (faults faults' : ℕ) : Type 0 where
  pub runner : Runner
  pub harts : ℕ
  pub parsed : parsed_run words ≡ Some (runner, harts)
  pub rose : Rose faults faults'

-- The cause of a fault, by what the source had left before and has left after, and by its count of faults before and after.
-- An allocation failure has none.
abbrev pub IsFault : List (List ℕ) → Fault → Option (List ℕ) → Option (List ℕ) → ℕ → ℕ → Type 0
IsFault words fault.Usage left left' faults faults' = parsed_run words ≡ None
IsFault words fault.TooLong left left' faults faults' = GivesLong words left left'
IsFault words fault.ReadFault left left' faults faults' = FailsFor words faults faults'
IsFault words (fault.Syntax line) left left' faults faults' = IsReportedBy HasNoText words left left' line.items
IsFault words (fault.Refused line) left left' faults faults' = IsReportedBy HasRefused words left left' line.items
IsFault words fault.Memory left left' faults faults' = Unit {0}
