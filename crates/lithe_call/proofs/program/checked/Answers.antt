use Rattle.array_tree.specs.Trees.{program_of}
use Rattle.disjoint_check.specs.FaultOf.{check_fault_of}
use Rattle.lithe_call.proofs.Causes.{refusal_printed}
use Rattle.lithe_call.proofs.program.checked.Goals as goal

pub returns-in-Err-clause-fault : goal.returns-in-Err-clause-fault
returns-in-Err-clause-fault c =
    let program = program_of c.args.program.now in
    refusal_printed (check_fault_of program c.args.harts) program c.in-Err.fault c.refusal.result c.refusal.ensures c.in-Err.ensures.fault
