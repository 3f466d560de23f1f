-- How pictures stand to the commands of `lithe`.
use Rattle.std.proofs.Common.{◌≤◌, ℕ, List, length, refl, inl, inr}
use Rattle.transfer_table.specs.Plan.{IsPlan}
use Rattle.transfer_table.proofs.Plans.{is_plan}
use Rattle.array_tree.specs.Trees.{ProgramTree}
use Rattle.array_meaning.specs.Entered.{entered_of}
use Rattle.array_meaning.specs.Plans.{plan_of, sites_in}
use Rattle.array_meaning.specs.Work.{final_store}
use Rattle.entered_laws.proofs.Parts.{every_site_has_a_flag}
use Rattle.disjoint_check.specs.LimitFault.{room_for}
use Rattle.disjoint_check.proofs.PlanLaws.{plan_right}
use Rattle.run_audit.proofs.Found.{legal_outputs}
use Rattle.run_audit.specs.declared.verdict.Verdict.{Verdict}
use Rattle.run_audit.specs.declared.verdict.Verdict.TheVariants.{Legal}
use Rattle.lithe_call.specs.Auditing.{AreFound, HasParts}
use Rattle.lithe_call.specs.Faults as lithe
use Rattle.lithe_call.specs.Output.{IsRunOutput}
use Rattle.lithe_call.specs.Programs.{table_plan}
use Rattle.picture_call.specs.declared.runner.Runner.{Runner}
use Rattle.picture_call.specs.declared.runner.Runner.TheVariants.{Run, Tally, Pipe}
use Rattle.picture_call.specs.Causes.{AreNoText}
use Rattle.picture_call.specs.Laws.{OutputsAreLegal, RunsEndAsAudits, RunsFailAsAudits}
use Rattle.picture_call.specs.Pictures.{AreJudged, IsRunBy, SpellRun}

-- What is so of all parts is so of those of the bytes.
pub parts_so : (P Q : List ℕ → List ℕ → Type 0) (bytes : List ℕ) → ((first second : List ℕ) → P first second → Q first second) → HasParts P bytes → HasParts Q bytes
parts_so P Q bytes so has = record { first = has.first; second = has.second; parts = has.parts; are = so has.first has.second has.are }

judged : (harts : ℕ) (found : Verdict) (first second : List ℕ) → AreFound harts found first second → AreJudged Run harts found first second
judged harts found first second are = record {
  program = are.program;
  input = record { short = are.input.short; spelled = are.input.spelled; run = are.input.accepted };
  found = are.found;
}

audited : (harts : ℕ) (found : Verdict) (first second : List ℕ) → AreJudged Run harts found first second → AreFound harts found first second
audited harts found first second are = record {
  program = are.program;
  input = record { short = are.input.short; spelled = are.input.spelled; accepted = are.input.run };
  found = are.found;
}

pub runs_end : RunsEndAsAudits
runs_end harts bytes status = (
  λ ends. (ends.0, (ends.1.0, parts_so (AreFound harts ends.1.0) (AreJudged Run harts ends.1.0) bytes (judged harts ends.1.0) ends.1.1, ends.1.2)),
  λ ends. (ends.0, (ends.1.0, parts_so (AreJudged Run harts ends.1.0) (AreFound harts ends.1.0) bytes (audited harts ends.1.0) ends.1.1, ends.1.2)),
)

no_text : (harts : ℕ) (line first second : List ℕ) → lithe.AreNoText harts line first second → AreNoText Run harts line first second
no_text harts line first second (inl nothing) = inl nothing
no_text harts line first second (inr other) = inr (record {
  program = other.program;
  input = record { short = other.input.short; spelled = other.input.spelled; run = other.input.accepted };
  is = record { fault = other.fault; found = other.found; real = other.real; printed = other.printed };
})

no_text_back : (harts : ℕ) (line first second : List ℕ) → AreNoText Run harts line first second → lithe.AreNoText harts line first second
no_text_back harts line first second (inl nothing) = inl nothing
no_text_back harts line first second (inr other) = inr (record {
  program = other.program;
  input = record { short = other.input.short; spelled = other.input.spelled; accepted = other.input.run };
  fault = other.is.fault;
  found = other.is.found;
  real = other.is.real;
  printed = other.is.printed;
})

pub runs_fail : RunsFailAsAudits
runs_fail harts bytes line = (
  (
    λ fails. elim fails [ inl mark ↦ inl mark | inr parts ↦ inr (parts_so (lithe.AreNoText harts line) (AreNoText Run harts line) bytes (no_text harts line) parts) ],
    λ fails. elim fails [ inl mark ↦ inl mark | inr parts ↦ inr (parts_so (AreNoText Run harts line) (lithe.AreNoText harts line) bytes (no_text_back harts line) parts) ],
  ),
  (λ refused. refused, λ refused. refused),
)

-- ---- what a command writes is legal
sites_few : (runner : Runner) (harts : ℕ) (program : ProgramTree) → IsRunBy runner harts program → sites_in program.body ≤ 4095
sites_few Run harts program is = is.accepted.sites
sites_few Tally harts program is = is.meaning.limits.sites
sites_few Pipe harts program is = is.accepted.accepted.sites

entries_few : (runner : Runner) (harts : ℕ) (program : ProgramTree) → IsRunBy runner harts program → room_for (sites_in program.body) harts ≤ 65535
entries_few Run harts program is = is.entries
entries_few Tally harts program is = is.meaning.limits.entries
entries_few Pipe harts program is = is.accepted.entries

run_plan : (runner : Runner) (harts : ℕ) (program : ProgramTree) → 1 ≤ harts → harts ≤ 16 → IsRunBy runner harts program → IsPlan (table_plan program harts)
run_plan runner harts program some most is =
    is_plan harts (plan_of program) (plan_right program harts some most (sites_few runner harts program is) (entries_few runner harts program is))

legal : (runner : Runner) (harts : ℕ) (first second : List ℕ) (program : ProgramTree) → 1 ≤ harts → harts ≤ 16 → SpellRun runner harts first program → IsRunOutput program harts second
    → (entries : ℕ) × AreJudged runner harts (Legal entries) first second
legal runner harts first second program some most input output =
    let plan = table_plan program harts in
    let both = legal_outputs plan (run_plan runner harts program some most input.run) (entered_of program) (every_site_has_a_flag program plan refl) program (final_store program) second (length output.journal) in (
      length output.journal,
      record {
        program = program;
        input = input;
        found = both.1 (record { list = output.journal; complete = output.complete; many = refl; whole = output.whole });
      },
    )

pub outputs_legal : OutputsAreLegal
outputs_legal Run harts some most first second is =
    let input = is.1.input in
    legal Run harts first second is.1.program some most (record { short = input.short; spelled = input.spelled; run = input.accepted }) is.1.output
outputs_legal Tally harts some most first second is =
    let input = is.1.input in
    legal Tally harts first second is.1.program some most (record { short = input.short; spelled = input.spelled; run = input.tallied }) is.1.output
outputs_legal Pipe harts some most first second is =
    let input = is.1.input in
    legal Pipe harts first second is.1.program some most (record { short = input.short; spelled = input.spelled; run = input.piped }) is.1.output
