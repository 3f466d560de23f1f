use Rattle.std.proofs.Common.{Option, Some, ap, ◌∙◌, subst}
use Rattle.step_eval.specs.Machines.{is_awaiting}
use Rattle.step_eval.specs.Nests.{NestedParts}
use Rattle.array_tasks.specs.Machines.{HasCome}
use Rattle.array_tasks.proofs.Moved.{moved_on}
use Rattle.array_tasks.proofs.job_task.step_job.Goals as goal

pub constructs-preserved : goal.constructs-preserved
constructs-preserved g c =
    let before = c.next_nested.new.machine in
    let come : HasCome c.constructs.machine (Some c.in-Some.nested) before = subst (λ (found : Option NestedParts). HasCome c.constructs.machine found before) c.in-Some.is c.in_ok-nested.ensures in
    let moved = moved_on before.rest before c.supply.new.self c.in_ok-supply.ensures.ok in
    record {
      job = moved.0 ∙ come.0 ∙ c.constructs.invariant.job;
      ready = ap is_awaiting moved.1;
      levels = c.run_construct.ensures.levels ∙ c.constructs.invariant.levels;
    }
