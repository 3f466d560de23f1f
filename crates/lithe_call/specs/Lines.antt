-- The faults that have a line, by what the line reports.
use Rattle.std.specs.Prelude.{◌≡◌, ◌≢◌, ℕ, List}
use Rattle.array_tree.specs.Trees.{ProgramTree}
use Rattle.array_lang.specs.declared.fault.SyntaxFault.{SyntaxFault}
use Rattle.array_lang.specs.declared.fault.SyntaxFault.TheVariants as syntax
use Rattle.disjoint_check.specs.declared.fault.CheckFault.{CheckFault}
use Rattle.disjoint_check.specs.declared.fault.CheckFault.TheVariants as check
use Rattle.journal_text.specs.declared.fault.TextFault.{TextFault}
use Rattle.journal_text.specs.declared.fault.TextFault.TheVariants as text
use Rattle.run_audit.specs.AuditText.{text_fault_text}
use Rattle.error_text.specs.SyntaxText.{syntax_text}
use Rattle.error_text.specs.RefusalText.{refusal_text}
use Rattle.error_text.specs.TallyText.{tally_text}
use Rattle.error_text.specs.CrossingText.{crossing_text}
use Rattle.pipe_walk.specs.declared.fault.PipeFault.{PipeFault}
use Rattle.pipe_walk.specs.declared.fault.PipeFault.TheVariants as pipe
use Rattle.tally_cells.specs.declared.fault.TallyFault.{TallyFault}
use Rattle.tally_cells.specs.declared.fault.TallyFault.TheVariants as tally
use Rattle.lithe_call.specs.declared.fault.Fault.{Fault}
use Rattle.lithe_call.specs.declared.fault.Fault.TheVariants as fault

-- The fault is Syntax with a line for which `IsSo` holds, or an allocation failed.
abbrev pub ReportsSyntax : (List ℕ → Type 0) → Fault → Type 0
ReportsSyntax IsSo (fault.Syntax line) = IsSo line.items
ReportsSyntax IsSo fault.Memory = Unit {0}
ReportsSyntax IsSo why = ⊥

-- The fault is Refused with a line for which `IsSo` holds, or an allocation failed.
abbrev pub ReportsRefusal : (List ℕ → Type 0) → Fault → Type 0
ReportsRefusal IsSo (fault.Refused line) = IsSo line.items
ReportsRefusal IsSo fault.Memory = Unit {0}
ReportsRefusal IsSo why = ⊥

-- The fault reports the text's first error, or an allocation failed.
abbrev pub PrintsSyntax : SyntaxFault → Fault → Type 0
PrintsSyntax cause why = ReportsSyntax (λ line. (cause ≢ syntax.Memory) × (line ≡ syntax_text cause)) why

-- The fault reports why the program isn't accepted, or an allocation failed.
abbrev pub PrintsRefusal : ProgramTree → CheckFault → Fault → Type 0
PrintsRefusal program cause why =
    ReportsRefusal (λ line. (cause ≢ check.Memory) × (line ≡ refusal_text program cause)) why

-- The fault reports why the program can't be spread, or an allocation failed.
abbrev pub PrintsTally : TallyFault → Fault → Type 0
PrintsTally cause why = ReportsRefusal (λ line. (cause ≢ tally.Memory) × (line ≡ tally_text cause)) why

-- The fault reports the crossing of two pieces, or an allocation failed.
abbrev pub PrintsCrossing : ProgramTree → PipeFault → Fault → Type 0
PrintsCrossing program cause why =
    ReportsRefusal (λ line. (cause ≢ pipe.Memory) × (line ≡ crossing_text program cause)) why

-- The fault reports the first error of an output's text, or an allocation failed.
abbrev pub PrintsText : TextFault → Fault → Type 0
PrintsText cause why = ReportsSyntax (λ line. (cause ≢ text.Memory) × (line ≡ text_fault_text cause)) why
