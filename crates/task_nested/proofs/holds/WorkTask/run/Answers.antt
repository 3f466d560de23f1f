use Rattle.std.proofs.Common.{◌≡◌, refl, sym, subst}
use Rattle.task_nested.specs.Works.{gives_of}
use Rattle.task_nested.specs.declared.work.Work.{Work}
use Rattle.task_nested.specs.declared.work.Work.TheVariants.{Table, Sorted}
use Rattle.task_nested.specs.declared.work.Done.TheVariants.{Summaries, Numbers}
use Rattle.task_nested.proofs.holds.WorkTask.run.Goals as goal

pub returns-in_ok-list-in-Table-clause-output : goal.returns-in_ok-list-in-Table-clause-output
returns-in_ok-list-in-Table-clause-output g c =
    let list = c.in_ok-list-in-Table.list in
    subst (λ (task : Work). gives_of task (Summaries list)) (sym c.in-Table.is) (list, refl, c.in_ok-list-in-Table.ensures.output)

pub returns-in_ok-list-in-Sorted-clause-output : goal.returns-in_ok-list-in-Sorted-clause-output
returns-in_ok-list-in-Sorted-clause-output g c =
    let list = c.in_ok-list-in-Sorted.list in
    subst (λ (task : Work). gives_of task (Numbers list)) (sym c.in-Sorted.is) (list, refl, (c.in_ok-list-in-Sorted.ensures.order, c.in_ok-list-in-Sorted.ensures.same))
