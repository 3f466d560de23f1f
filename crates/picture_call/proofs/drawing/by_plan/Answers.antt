use Rattle.array_tree.specs.Trees.{program_of}
use Rattle.array_meaning.specs.Entered.{entered_of}
use Rattle.array_meaning.specs.Work.{final_store}
use Rattle.array_eval.specs.ArrayText.{array_text}
use Rattle.run_audit.specs.Audit.{audit_of}
use Rattle.picture_call.specs.declared.picture.Picture.{Picture}
use Rattle.picture_call.proofs.Refusing.{read_found, text_no_output}
use Rattle.picture_call.proofs.drawing.by_plan.Goals as goal

pub returns-in-Err-clause-fault : goal.returns-in-Err-clause-fault
returns-in-Err-clause-fault c =
    let program = program_of c.args.program.now in
    let plan = c.args.plan.now in
    let output = c.args.output.now in
    text_no_output plan program output c.in-Err.fault c.text_fault.result c.text_fault.ensures
    (read_found {A = Picture} (λ (p : Picture). p.verdict) (audit_of plan (entered_of program) (array_text program (final_store program)) output) c.in-Err.fault c.in-Err.ensures.verdict)
