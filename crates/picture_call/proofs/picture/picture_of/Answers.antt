use Rattle.std.proofs.Common.{◌≡◌, Ok, ap, sym, subst}
use Rattle.array_tree.specs.Trees.{program_of}
use Rattle.array_meaning.specs.Work.{final_store}
use Rattle.array_meaning.specs.Entered.{entered_of}
use Rattle.array_eval.specs.ArrayText.{array_text}
use Rattle.run_audit.specs.Audit.{audit_of}
use Rattle.run_audit.specs.declared.verdict.Verdict.{Verdict}
use Rattle.picture_call.specs.Picture.{Pictured, picture_by}
use Rattle.picture_call.specs.Seen.{picture_seen}
use Rattle.picture_call.proofs.Reading.{go_on}
use Rattle.picture_call.proofs.picture.picture_of.Goals as goal

pub returns-clause-picture : goal.returns-clause-picture
returns-clause-picture c =
    let program = program_of c.args.program.now in
    go_on (λ (v : Verdict). v) picture_seen (λ (v : Verdict). picture_by c.args.form c.args.teams program c.args.plan.now c.args.output.now v)
    (audit_of c.args.plan.now (entered_of program) (array_text program (final_store program)) c.args.output.now) c.in_ok-verdict.verdict c.in_ok-picture.picture
    c.in_ok-verdict.ensures c.in_ok-picture.ensures

pub returns-clause-verdict : goal.returns-clause-verdict
returns-clause-verdict c =
    let program = program_of c.args.program.now in
    let own = ap (λ (p : Pictured). p.verdict) c.in_ok-picture.ensures in
    subst (λ (v : Verdict). audit_of c.args.plan.now (entered_of program) (array_text program (final_store program)) c.args.output.now ≡ Ok v) (sym own) c.in_ok-verdict.ensures
