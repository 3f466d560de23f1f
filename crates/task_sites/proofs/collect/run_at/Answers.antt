use Rattle.std.proofs.Common.{◌≤◌}
use Rattle.task_sites.proofs.Places.{at_place}
use Rattle.task_sites.proofs.collect.run_at.Goals as goal

pub run_observed-outcome-requires-clause-depth : goal.run_observed-outcome-requires-clause-depth
run_observed-outcome-requires-clause-depth g c =
    at_place (λ task. g.T.TaskKind.depth task ≤ g.H.Harts.levels c.args.harts.now) c.args.table.now.table.shared.key.value.items c.args.place c.in-Some.task c.in-Some.ensures.task.0 c.requires.shallow
