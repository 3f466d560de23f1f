use Rattle.array_tree.specs.Trees.{program_of}
use Rattle.array_tasks.proofs.Reports.{refusal_named}
use Rattle.array_tasks.proofs.text.accepted.Goals as goal

pub returns-in-Err-clause-error : goal.returns-in-Err-clause-error
returns-in-Err-clause-error c =
    refusal_named (program_of c.args.program.now) c.in-Err.fault c.refusal_error.result c.refusal_error.ensures c.in-Err.ensures.fault
