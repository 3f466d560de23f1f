-- How pictures stand to the commands of `lithe`.
use Rattle.std.specs.Prelude.{◌↔◌, ◌≤◌, ℕ, List}
use Rattle.command_words.specs.declared.command.Command.TheVariants.{Audit}
use Rattle.run_audit.specs.declared.verdict.Verdict.TheVariants.{Legal}
use Rattle.lithe_call.specs.declared.status.Status.{Status}
use Rattle.lithe_call.specs.declared.status.Status.TheVariants.{Done}
use Rattle.lithe_call.specs.Faults.{IsNoText, IsRefused}
use Rattle.lithe_call.specs.Output.{EndsWith, IsOutputOf}
use Rattle.picture_call.specs.declared.runner.Runner.{Runner}
use Rattle.picture_call.specs.declared.runner.Runner.TheVariants.{Run}
use Rattle.picture_call.specs.Causes.{HasNoText, HasRefused}
use Rattle.picture_call.specs.Pictures.{AreJudged, EndsAs, command_of}

-- A picture of an output of `run` ends as the audit of the same bytes does.
abbrev pub RunsEndAsAudits : Type 0
RunsEndAsAudits = (harts : ℕ) (bytes : List ℕ) (status : Status)
    → EndsWith (Audit harts) bytes status ↔ EndsAs Run harts bytes status

-- Where there is none, the line is that of the audit.
abbrev pub RunsFailAsAudits : Type 0
RunsFailAsAudits = (harts : ℕ) (bytes line : List ℕ)
    → (IsNoText (Audit harts) bytes line ↔ HasNoText Run harts bytes line)
    × (IsRefused (Audit harts) bytes line ↔ HasRefused Run harts bytes line)

-- Whatever a command writes for a program is legal as an output of that command for it.
abbrev pub OutputsAreLegal : Type 0
OutputsAreLegal = (runner : Runner) (harts : ℕ) → 1 ≤ harts → harts ≤ 16
    → (first second : List ℕ)
    → IsOutputOf (command_of runner harts) first Done second
    → (entries : ℕ) × AreJudged runner harts (Legal entries) first second
