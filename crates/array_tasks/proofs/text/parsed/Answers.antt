use Rattle.array_tasks.proofs.Reports.{syntax_reported}
use Rattle.array_tasks.proofs.text.parsed.Goals as goal

pub returns-in-Err-clause-error : goal.returns-in-Err-clause-error
returns-in-Err-clause-error c = λ harts.
    syntax_reported c.args.text.now c.in-Err.fault c.syntax_error.result harts c.syntax_error.ensures c.in-Err.ensures.only c.in-Err.ensures.fault
