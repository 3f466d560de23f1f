use Rattle.lithe_call.proofs.Causes.{syntax_line_printed}
use Rattle.lithe_call.proofs.program.parsed.Goals as goal

pub returns-in-Err-clause-fault : goal.returns-in-Err-clause-fault
returns-in-Err-clause-fault c =
    syntax_line_printed c.args.bytes.now c.in-Err.fault c.syntax_fault.result c.requires.short c.syntax_fault.ensures c.in-Err.ensures.only c.in-Err.ensures.fault
