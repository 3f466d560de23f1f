use Rattle.std.proofs.Common.{subst}
use Rattle.array_tree.specs.declared.tree.Program.{Program}
use Rattle.array_tree.specs.Trees.{program_of}
use Rattle.pipe_walk.specs.FirstCrossing.{IsFaultOf}
use Rattle.lithe_call.proofs.Piping.{unpiped_line, crossing_printed}
use Rattle.lithe_call.proofs.pipe.piped.Goals as goal

pub returns-in-Err-clause-fault : goal.returns-in-Err-clause-fault
returns-in-Err-clause-fault g c =
    let program = program_of c.in_ok-program.program in
    unpiped_line c.args.harts c.args.bytes.now program c.crossing_fault.result c.requires.short c.in_ok-program.ensures.spelled
    (crossing_printed c.args.harts program c.in-Err.fault c.crossing_fault.result c.in_ok-accepted.ensures.accepted c.crossing_fault.ensures
    (subst (λ (p : Program). IsFaultOf (program_of p) c.in-Err.fault) c.in_ok-accepted.ensures.program c.in-Err.ensures.fault))
