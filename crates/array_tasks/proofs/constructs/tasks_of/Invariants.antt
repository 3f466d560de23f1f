use Rattle.std.proofs.Common.{◌≡◌, All, map}
use Rattle.array_tasks.proofs.constructs.tasks_of.Given as goal

-- The jobs so far are tasks with so many levels.
abbrev pub invariant-jobs : goal.invariant-jobs
invariant-jobs l = record {
  same : map (λ task. task.job) l.tasks.items ≡ l.yielded;
  levels : All (λ task. task.levels ≡ l.levels) l.tasks.items;
}
