use Rattle.std.proofs.Common.{Bool, List, subst}
use Rattle.array_tree.specs.Trees.{program_of}
use Rattle.array_meaning.specs.Work.{final_store}
use Rattle.array_eval.specs.ArrayText.{array_text}
use Rattle.journal_text.specs.Seen.{Reads}
use Rattle.run_audit.specs.Audit.{audit_of}
use Rattle.picture_call.proofs.picture.verdict_on.Goals as goal

pub returns : goal.returns
returns c =
    let program = program_of c.args.program.now in
    subst (λ (meant : List Bool). Reads (λ verdict. verdict) (audit_of c.args.plan.now meant (array_text program (final_store program)) c.args.output.now) c.audit_by.result)
    c.requires.entered c.audit_by.ensures
