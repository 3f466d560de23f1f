use Rattle.std.proofs.Common.{Some, ap, sym, ◌∙◌}
use Rattle.task_nested.proofs.Outputs.{summaries_in}
use Rattle.task_nested.proofs.holds.WorkHoldsPartRows.output_of.Goals as goal

-- What a range of rows gives is the list of the output.
pub returns-in-Summaries : goal.returns-in-Summaries
returns-in-Summaries c = λ task given.
    (given.0, ap (λ done. Some (summaries_in c.in-Summaries.list done)) (sym c.in-Summaries.is ∙ given.1), given.2)
