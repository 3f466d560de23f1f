-- A picture has the verdict of its output, and no input has two.
use Rattle.std.proofs.Common.{◌≡◌, ◌∙◌, ◌⊎◌, ◌<◌, ℕ, List, length, Some, None, Result, Ok, Err, refl, sym, ap, subst, inl, inr, arith}
use Rattle.array_tree.specs.Trees.{ProgramTree}
use Rattle.array_lang.proofs.OneProgram.{one_text}
use Rattle.journal_text.specs.Reading.{and_then}
use Rattle.journal_text.specs.declared.fault.TextFault.{TextFault}
use Rattle.run_audit.specs.declared.verdict.Verdict.{Verdict}
use Rattle.run_audit.specs.declared.verdict.Verdict.TheVariants as verdict
use Rattle.picture_call.specs.declared.picture.Form.{Form}
use Rattle.picture_call.specs.Picture.{Pictured, picture_by}
use Rattle.lithe_call.specs.Auditing.{found_in, status_by}
use Rattle.lithe_call.specs.Output.{EndsWith}
use Rattle.lithe_call.specs.Programs.{table_plan}
use Rattle.lithe_call.specs.declared.status.Status.{Status}
use Rattle.lithe_call.specs.declared.status.Status.TheVariants as status
use Rattle.lithe_call.proofs.Endings.{parts_meet, same_parts, refused_ends}
use Rattle.picture_call.specs.declared.runner.Runner.{Runner}
use Rattle.picture_call.specs.declared.runner.Runner.TheVariants.{Run, Tally, Pipe}
use Rattle.picture_call.specs.Causes.{AreNoText, AreRefused, HasNoText, HasRefused, IsLong}
use Rattle.picture_call.specs.Pictures.{AreDrawn, AreJudged, HasPicture, IsJudged, SpellRun, command_of, teams_of}

-- What goes on from a verdict and keeps it comes of that verdict.
kept : (f : Verdict → Pictured) (picture : Pictured) (found : Result Verdict TextFault) → ((v : Verdict) → (f v).verdict ≡ v)
    → and_then (λ v. Ok (f v)) found ≡ Ok picture → found ≡ Ok picture.verdict
kept f picture (Ok v) keeps e = let same : f v ≡ picture = cc e in ap Ok (sym (keeps v) ∙ ap (λ (p : Pictured). p.verdict) same)
kept f picture (Err why) keeps e = cc e

is_judged : (form : Form) (runner : Runner) (harts : ℕ) (picture : Pictured) (first second : List ℕ) → AreDrawn form runner harts picture first second
    → AreJudged runner harts picture.verdict first second
is_judged form runner harts picture first second are = record {
  program = are.program;
  input = are.input;
  found = kept (λ v. picture_by form (teams_of runner) are.program (table_plan are.program harts) second v) picture (found_in harts are.program second) (λ v. refl) are.drawn;
}

pub drawn_judged : (form : Form) (runner : Runner) (harts : ℕ) (bytes : List ℕ) (picture : Pictured) → HasPicture form runner harts bytes picture
    → IsJudged runner harts bytes picture.verdict
drawn_judged form runner harts bytes picture has =
    record { first = has.first; second = has.second; parts = has.parts; are = is_judged form runner harts picture has.first has.second has.are }

-- Its status is one of these.
pub written : (found : Verdict) (s : Status) → status_by found ≡ s → (s ≡ status.Done) ⊎ (s ≡ status.Illegal)
written (verdict.Legal entries) s e = inl (sym e)
written (verdict.Differs line) s e = inr (sym e)
written (verdict.Illegal fault) s e = inr (sym e)

-- ---- there is one verdict
found_once : (runner : Runner) (harts : ℕ) (one other : Verdict) (first second : List ℕ) → AreJudged runner harts one first second → AreJudged runner harts other first second → one ≡ other
found_once runner harts one other first second a b =
    let same = one_text first a.program b.program a.input.spelled b.input.spelled in
    let both : ◌≡◌ {A = Result Verdict TextFault} (Ok one) (Ok other) = sym a.found ∙ ap (λ (p : ProgramTree). found_in harts p second) same ∙ b.found in cc both

pub one_verdict : (runner : Runner) (harts : ℕ) (bytes : List ℕ) (one other : Verdict) → IsJudged runner harts bytes one → IsJudged runner harts bytes other → one ≡ other
one_verdict runner harts bytes one other a b =
    let same = same_parts bytes a.first a.second b.first b.second a.parts b.parts in
    found_once runner harts one other b.first b.second
    (subst (λ (s : List ℕ). AreJudged runner harts one b.first s) same.1 (subst (λ (f : List ℕ). AreJudged runner harts one f a.second) same.0 a.are)) b.are

-- ---- what has a verdict has no fault
ends_first : (runner : Runner) (harts : ℕ) (bytes : List ℕ) (program : ProgramTree) → SpellRun runner harts bytes program → EndsWith (command_of runner harts) bytes status.Done
ends_first Run harts bytes program is = (refl, (program, record { short = is.short; spelled = is.spelled; accepted = is.run }))
ends_first Tally harts bytes program is = (refl, (program, record { short = is.short; spelled = is.spelled; tallied = is.run }))
ends_first Pipe harts bytes program is = (refl, (program, record { short = is.short; spelled = is.spelled; piped = is.run }))

text_meets : (runner : Runner) (harts : ℕ) (line : List ℕ) (found : Verdict) (first second : List ℕ) → AreNoText runner harts line first second → AreJudged runner harts found first second → ⊥
text_meets runner harts line found first second (inl nothing) are = nothing.nothing are.program are.input.spelled
text_meets runner harts line found first second (inr other) are =
    let same = one_text first other.program are.program other.input.spelled are.input.spelled in
    let bad : Err other.is.fault ≡ Ok found = sym other.is.found ∙ ap (λ (p : ProgramTree). found_in harts p second) same ∙ are.found in cc bad

pub no_text_judged : (runner : Runner) (harts : ℕ) (bytes line : List ℕ) (found : Verdict) → HasNoText runner harts bytes line → IsJudged runner harts bytes found → ⊥
no_text_judged runner harts bytes line found (inl mark) is = let bad : None ≡ Some (is.first, is.second) = sym mark.none ∙ is.parts in cc bad
no_text_judged runner harts bytes line found (inr parts) is =
    parts_meet (AreNoText runner harts line) (AreJudged runner harts found) bytes (λ first second. text_meets runner harts line found first second) parts is

refusal_meets : (runner : Runner) (harts : ℕ) (line : List ℕ) (found : Verdict) (first second : List ℕ) → AreRefused runner harts line first second → AreJudged runner harts found first second → ⊥
refusal_meets runner harts line found first second refused are =
    let bad : status.Done ≡ status.Refused =
    refused_ends (command_of runner harts) first line status.Done refused (ends_first runner harts first are.program are.input) in cc bad

pub refused_judged : (runner : Runner) (harts : ℕ) (bytes line : List ℕ) (found : Verdict) → HasRefused runner harts bytes line → IsJudged runner harts bytes found → ⊥
refused_judged runner harts bytes line found refused is =
    parts_meet (AreRefused runner harts line) (AreJudged runner harts found) bytes (λ first second. refusal_meets runner harts line found first second) refused is

pub long_judged : (runner : Runner) (harts : ℕ) (bytes : List ℕ) (found : Verdict) → IsLong bytes → IsJudged runner harts bytes found → ⊥
long_judged runner harts bytes found long is =
    parts_meet (λ first second. 65536 < length first) (AreJudged runner harts found) bytes (λ first second more are. absurd (omega (arith, more, are.input.short))) long is
