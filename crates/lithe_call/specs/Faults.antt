-- Why there is no output.
use Rattle.std.specs.Prelude.{◌≡◌, ◌≢◌, ◌⊎◌, ℕ, ◌≤◌, ◌<◌, List, [], ◌∷◌, ◌++◌, codes, length, Option, Some, None, Err}
use Rattle.array_tree.specs.Trees.{ProgramTree}
use Rattle.array_lang.specs.Spelled.{Spells, HasFault}
use Rattle.array_lang.specs.declared.fault.SyntaxFault.{SyntaxFault}
use Rattle.array_lang.specs.declared.fault.SyntaxFault.TheVariants as syntax
use Rattle.array_meaning.specs.Bounds.{most_bytes}
use Rattle.disjoint_check.specs.FaultOf.{meaning_fault_of, check_fault_of}
use Rattle.disjoint_check.specs.Meaning.{HasMeaningFor, IsAcceptedFor}
use Rattle.disjoint_check.specs.declared.fault.CheckFault.{CheckFault}
use Rattle.disjoint_check.specs.declared.fault.CheckFault.TheVariants as check
use Rattle.error_text.specs.SyntaxText.{syntax_text}
use Rattle.error_text.specs.RefusalText.{refusal_text}
use Rattle.error_text.specs.TallyText.{tally_text}
use Rattle.error_text.specs.CrossingText.{crossing_text}
use Rattle.pipe_walk.specs.FirstCrossing.{IsFaultOf}
use Rattle.pipe_walk.specs.declared.fault.PipeFault.{PipeFault}
use Rattle.pipe_walk.specs.declared.fault.PipeFault.TheVariants as pipe
use Rattle.spread_laws.specs.Faults.{SpreadFault, spread_fault_of}
use Rattle.spread_laws.specs.Spread.{spread_of}
use Rattle.tally_cells.specs.FaultOf.{reported_of}
use Rattle.lithe_call.specs.Inputs.{ReadsAll, GivesTooMuch, FailsToRead}
use Rattle.lithe_call.specs.Lines.{ReportsRefusal}
use Rattle.lithe_call.specs.Programs.{made_text, SpellAccepted}
use Rattle.lithe_call.specs.Tallies.{IsTallied}
use Rattle.lithe_call.specs.Pipelines.{IsPiped}
use Rattle.lithe_call.specs.Auditing.{HasParts, found_in}
use Rattle.command_words.specs.Form.{form_of}
use Rattle.command_words.specs.declared.command.Command.{Command}
use Rattle.command_words.specs.declared.command.Command.TheVariants.{Run, Tally, Pipe, Solo, Audit, Make}
use Rattle.journal_text.specs.declared.fault.TextFault.{TextFault}
use Rattle.journal_text.specs.declared.fault.TextFault.TheVariants as text
use Rattle.run_audit.specs.Parts.{parts_of}
use Rattle.run_audit.specs.AuditText.{text_fault_text}
use Rattle.lithe_call.specs.declared.fault.Fault.{Fault}
use Rattle.lithe_call.specs.declared.fault.Fault.TheVariants as fault

-- Bytes within the limit spell no program, and the line reports their first fault, which isn't an allocation failure.
pub record SpellNothing (bytes line : List ℕ) : Type 0 where
  pub short : length bytes ≤ most_bytes
  pub nothing : (program : ProgramTree) → Spells bytes program → ⊥
  pub fault : SyntaxFault
  pub first : HasFault bytes fault
  pub real : fault ≢ syntax.Memory
  pub printed : line ≡ syntax_text fault

-- The line reports this fault of the program, which isn't an allocation failure.
pub record IsPrintedFault (found : Option CheckFault) (program : ProgramTree) (line : List ℕ) : Type 0 where
  pub fault : CheckFault
  pub is : found ≡ Some fault
  pub real : fault ≢ check.Memory
  pub printed : line ≡ refusal_text program fault

-- Bytes within the limit spell a program that isn't fit, and the line reports why.
pub record SpellUnfit (IsFit : ProgramTree → Type 0) (IsWhy : ProgramTree → List ℕ → Type 0)
    (bytes line : List ℕ) : Type 0 where
  pub short : length bytes ≤ most_bytes
  pub program : ProgramTree
  pub spelled : Spells bytes program
  pub refused : IsFit program → ⊥
  pub first : IsWhy program line

-- The line names the first condition that the program fails for so many harts.
abbrev pub IsUnaccepted : ℕ → ProgramTree → List ℕ → Type 0
IsUnaccepted harts program line = IsPrintedFault (check_fault_of program harts) program line

-- These bytes spell a program that isn't accepted for so many harts.
abbrev pub SpellRefused : ℕ → List ℕ → List ℕ → Type 0
SpellRefused harts bytes line =
    SpellUnfit (λ program. IsAcceptedFor program harts) (IsUnaccepted harts) bytes line

-- The program has a meaning, but its adds can't have rows of their own, and the line reports why.
pub record IsUnspread (harts : ℕ) (program : ProgramTree) (line : List ℕ) : Type 0 where
  pub meaning : HasMeaningFor program harts
  pub fault : SpreadFault
  pub first : spread_fault_of program ≡ Some fault
  pub printed : line ≡ tally_text (reported_of fault)

-- The program has a meaning and its adds can have rows, but with them it isn't accepted, and the line is about the program with
-- rows.
pub record IsSpreadRefused (harts : ℕ) (program : ProgramTree) (line : List ℕ) : Type 0 where
  pub meaning : HasMeaningFor program harts
  pub shaped : spread_fault_of program ≡ None
  pub first : IsPrintedFault (check_fault_of (spread_of program) harts) (spread_of program) line

-- The first of the three conditions for which `tally` refuses a program: its meaning, its adds, or the check of the program
-- with rows.
abbrev pub IsUntallied : ℕ → ProgramTree → List ℕ → Type 0
IsUntallied harts program line =
    IsPrintedFault (meaning_fault_of program harts) program line
    ⊎ (IsUnspread harts program line ⊎ IsSpreadRefused harts program line)

-- These bytes spell a program that can't be tallied by so many harts.
abbrev pub SpellUntallied : ℕ → List ℕ → List ℕ → Type 0
SpellUntallied harts bytes line = SpellUnfit (IsTallied harts) (IsUntallied harts) bytes line

-- The program is accepted, but two pieces cross at one of its sites, and the line reports the first such site and its least
-- cell.
pub record IsCrossed (harts : ℕ) (program : ProgramTree) (line : List ℕ) : Type 0 where
  pub accepted : IsAcceptedFor program harts
  pub fault : PipeFault
  pub is : IsFaultOf program fault
  pub real : fault ≢ pipe.Memory
  pub printed : line ≡ crossing_text program fault

-- The first of the two conditions for which `pipe` refuses a program: the check, or the check for crossings.
abbrev pub IsUnpiped : ℕ → ProgramTree → List ℕ → Type 0
IsUnpiped harts program line = IsUnaccepted harts program line ⊎ IsCrossed harts program line

-- These bytes spell a program that can't be piped by so many harts.
abbrev pub SpellUnpiped : ℕ → List ℕ → List ℕ → Type 0
SpellUnpiped harts bytes line = SpellUnfit (IsPiped harts) (IsUnpiped harts) bytes line

-- The input has no line `%%`, and the line reports that.
pub record HasNoMark (bytes line : List ℕ) : Type 0 where
  pub none : parts_of bytes ≡ None
  pub printed : line ≡ codes "syntax: no line %%" ++ 10 ∷ []

-- A first part that spells an accepted program, and a second part that is no output's text. The line reports its first fault,
-- which isn't an allocation failure.
pub record AreNoOutput (harts : ℕ) (line first second : List ℕ) : Type 0 where
  pub program : ProgramTree
  pub input : SpellAccepted harts first program
  pub fault : TextFault
  pub found : found_in harts program second ≡ Err fault
  pub real : fault ≢ text.Memory
  pub printed : line ≡ text_fault_text fault

-- The first part spells no program, or the second part is no output's text.
abbrev pub AreNoText : ℕ → List ℕ → List ℕ → List ℕ → Type 0
AreNoText harts line first second = SpellNothing first line ⊎ AreNoOutput harts line first second

-- The command's input is no text of the form that it reads, as the line reports.
abbrev pub IsNoText : Command → List ℕ → List ℕ → Type 0
IsNoText (Audit harts) bytes line = HasNoMark bytes line ⊎ HasParts (AreNoText harts line) bytes
IsNoText (Make seed size harts) bytes line = ⊥
IsNoText command bytes line = SpellNothing bytes line

-- The command's program isn't accepted, as the line reports.
abbrev pub IsRefused : Command → List ℕ → List ℕ → Type 0
IsRefused (Run harts) bytes line = SpellRefused harts bytes line
IsRefused (Tally harts) bytes line = SpellUntallied harts bytes line
IsRefused (Pipe harts) bytes line = SpellUnpiped harts bytes line
IsRefused Solo bytes line = SpellRefused 1 bytes line
IsRefused (Audit harts) bytes line = HasParts (λ first second. SpellRefused harts first line) bytes
IsRefused (Make seed size harts) bytes line = SpellRefused harts (made_text seed size) line

-- The program part of its input is too long.
abbrev pub IsLong : Command → List ℕ → Type 0
IsLong (Audit harts) bytes = HasParts (λ first second. most_bytes < length first) bytes
IsLong command bytes = ⊥

-- The cause of a fault of the command, by the bytes that the source had left before and has left after, and by its count of
-- faults before and after. An allocation failure has no cause.
abbrev pub IsCause : Command → Fault → Option (List ℕ) → Option (List ℕ) → ℕ → ℕ → Type 0
IsCause command fault.Usage left left' faults faults' = ⊥
IsCause command fault.TooLong left left' faults faults' =
    GivesTooMuch command left left'
    ⊎ ((bytes : List ℕ) × ReadsAll command left bytes left' × IsLong command bytes)
IsCause command fault.ReadFault left left' faults faults' = FailsToRead command faults faults'
IsCause command (fault.Syntax line) left left' faults faults' =
    (bytes : List ℕ) × ReadsAll command left bytes left' × IsNoText command bytes line.items
IsCause command (fault.Refused line) left left' faults faults' =
    (bytes : List ℕ) × ReadsAll command left bytes left' × IsRefused command bytes line.items
IsCause command fault.Memory left left' faults faults' = Unit {0}

-- The words are no form of a command, or an allocation failed while they were read.
abbrev pub IsNoCommand : List (List ℕ) → Fault → Type 0
IsNoCommand words fault.Usage = form_of words ≡ None
IsNoCommand words fault.Memory = Unit {0}
IsNoCommand words why = ⊥

-- The fault is Usage only if the words are no form of a command. For such words it is Usage or an allocation failure, which may
-- also occur while the words are read. Any other fault has its cause.
abbrev pub IsFault : List (List ℕ) → Fault → Option (List ℕ) → Option (List ℕ) → ℕ → ℕ → Type 0
IsFault words fault.Usage left left' faults faults' = form_of words ≡ None
IsFault words fault.Memory left left' faults faults' = Unit {0}
IsFault words why left left' faults faults' =
    (command : Command) × (form_of words ≡ Some command)
    × IsCause command why left left' faults faults'

-- The fault reports why the program can't be tallied, or an allocation failed.
abbrev pub PrintsUntallied : ℕ → ProgramTree → Fault → Type 0
PrintsUntallied harts program why = ReportsRefusal (IsUntallied harts program) why

-- The fault reports why the program can't be piped, or an allocation failed.
abbrev pub PrintsUnpiped : ℕ → ProgramTree → Fault → Type 0
PrintsUnpiped harts program why = ReportsRefusal (IsUnpiped harts program) why

-- The command has no output for these bytes, for this cause.
abbrev pub IsNoOutput : Command → List ℕ → Fault → Type 0
IsNoOutput command bytes fault.Usage = ⊥
IsNoOutput command bytes fault.TooLong = IsLong command bytes
IsNoOutput command bytes fault.ReadFault = ⊥
IsNoOutput command bytes (fault.Syntax line) = IsNoText command bytes line.items
IsNoOutput command bytes (fault.Refused line) = IsRefused command bytes line.items
IsNoOutput command bytes fault.Memory = Unit {0}

-- These parts have no verdict, for this cause.
abbrev pub HaveNoVerdict : ℕ → List ℕ → List ℕ → Fault → Type 0
HaveNoVerdict harts first second (fault.Syntax line) = AreNoText harts line.items first second
HaveNoVerdict harts first second (fault.Refused line) = SpellRefused harts first line.items
HaveNoVerdict harts first second fault.Memory = Unit {0}
HaveNoVerdict harts first second why = ⊥
