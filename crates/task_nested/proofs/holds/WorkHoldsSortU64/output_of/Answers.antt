use Rattle.std.proofs.Common.{◌≡◌, Some, ap, sym, ◌∙◌}
use Rattle.task_nested.proofs.Outputs.{numbers_in}
use Rattle.task_nested.proofs.holds.WorkHoldsSortU64.output_of.Goals as goal

-- What a sort gives is the list of the output.
pub returns-in-Numbers : goal.returns-in-Numbers
returns-in-Numbers c = λ task given.
    (given.0, ap (λ done. Some (numbers_in c.in-Numbers.list done)) (sym c.in-Numbers.is ∙ given.1), given.2)
