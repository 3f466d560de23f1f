-- The picture of what a source gave: a program, and behind a line `%%` an output of a command that ran it.
use Rattle.std.specs.Prelude.{◌≡◌, ℕ, ◌≤◌, List, length, Option, Some, Ok}
use Rattle.array_tree.specs.Trees.{ProgramTree}
use Rattle.array_lang.specs.Spelled.{Spells}
use Rattle.array_meaning.specs.Bounds.{most_bytes}
use Rattle.disjoint_check.specs.Meaning.{IsAcceptedFor}
use Rattle.command_words.specs.declared.command.Command.{Command}
use Rattle.command_words.specs.declared.command.Command.TheVariants as command
use Rattle.run_audit.specs.Parts.{most_audited}
use Rattle.run_audit.specs.declared.verdict.Verdict.{Verdict}
use Rattle.journal_picture.specs.declared.shape.Kind.{Kind}
use Rattle.journal_picture.specs.Kinds.{pipe, team}
use Rattle.picture_call.specs.declared.picture.Form.{Form}
use Rattle.picture_call.specs.Picture.{Pictured, picture_of}
use Rattle.lithe_call.specs.declared.status.Status.{Status}
use Rattle.lithe_call.specs.Auditing.{HasParts, found_in, status_by}
use Rattle.lithe_call.specs.Programs.{table_plan}
use Rattle.lithe_call.specs.Tallies.{IsTallied}
use Rattle.lithe_call.specs.Pipelines.{IsPiped}
use Rattle.lithe_call.specs.Printing.{GivesWithin}
use Rattle.picture_call.specs.declared.runner.Runner.{Runner}
use Rattle.picture_call.specs.declared.runner.Runner.TheVariants.{Run, Tally, Pipe}
use Rattle.picture_call.specs.Words.{parsed_form, parsed_run}

-- The command that ran the program, on so many harts.
abbrev pub command_of : Runner → ℕ → Command
command_of Run harts = command.Run harts
command_of Tally harts = command.Tally harts
command_of Pipe harts = command.Pipe harts

-- The kind of the schedulers of its teams.
abbrev pub teams_of : Runner → Kind
teams_of Run = team
teams_of Tally = team
teams_of Pipe = pipe

-- The command runs this program on so many harts: it is accepted, may be tallied, or may be piped.
abbrev pub IsRunBy : Runner → ℕ → ProgramTree → Type 0
IsRunBy Run harts program = IsAcceptedFor program harts
IsRunBy Tally harts program = IsTallied harts program
IsRunBy Pipe harts program = IsPiped harts program

-- These bytes spell a program that the command runs on so many harts.
pub record SpellRun (runner : Runner) (harts : ℕ) (bytes : List ℕ) (program : ProgramTree) : Type 0 where
  pub short : length bytes ≤ most_bytes
  pub spelled : Spells bytes program
  pub run : IsRunBy runner harts program

-- The first part spells a program that the command runs, and this is the verdict on the second. Each command writes the arrays
-- of the program's one-thread meaning and a journal that is complete for the program's plan, so the verdict is found in one way.
pub record AreJudged (runner : Runner) (harts : ℕ) (verdict : Verdict) (first second : List ℕ) : Type 0 where
  pub program : ProgramTree
  pub input : SpellRun runner harts first program
  pub found : found_in harts program second ≡ Ok verdict

-- These bytes have this verdict.
abbrev pub IsJudged : Runner → ℕ → List ℕ → Verdict → Type 0
IsJudged runner harts bytes verdict = HasParts (AreJudged runner harts verdict) bytes

-- A picture of these bytes has this status: they are no longer than an audit's, and it is the status of their verdict.
abbrev pub EndsAs : Runner → ℕ → List ℕ → Status → Type 0
EndsAs runner harts bytes status = (length bytes ≤ most_audited)
    × ((verdict : Verdict) × IsJudged runner harts bytes verdict × (status ≡ status_by verdict))

-- The first part spells a program that the command runs, and this is the picture of the second.
pub record AreDrawn (form : Form) (runner : Runner) (harts : ℕ) (picture : Pictured) (first second : List ℕ) : Type 0 where
  pub program : ProgramTree
  pub input : SpellRun runner harts first program
  pub drawn : picture_of form (teams_of runner) program (table_plan program harts) second ≡ Ok picture

-- These bytes have this picture.
abbrev pub HasPicture : Form → Runner → ℕ → List ℕ → Pictured → Type 0
HasPicture form runner harts bytes picture = HasParts (AreDrawn form runner harts picture) bytes

-- The text is the picture that the words request of the bytes that the source gave to its end, no more than an audit may have,
-- and the status is that of its verdict.
pub record IsPictureFor (words : List (List ℕ)) (left left' : Option (List ℕ)) (status : Status)
    (text : List ℕ) : Type 0 where
  pub form : Form
  pub named : parsed_form words ≡ Some form
  pub runner : Runner
  pub harts : ℕ
  pub parsed : parsed_run words ≡ Some (runner, harts)
  pub bytes : List ℕ
  pub given : GivesWithin most_audited left bytes left'
  pub picture : Pictured
  pub has : HasPicture form runner harts bytes picture
  pub same : status ≡ status_by picture.verdict
  pub printed : text ≡ picture.text
