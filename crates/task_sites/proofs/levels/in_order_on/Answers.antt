use Rattle.std.proofs.Common.{◌≤◌, ℕ, ap, arith, length, sym, subst}
use Rattle.std.specs.Vec.Iter.{into_iter_items, into_iter_len}
use Rattle.tasks.proofs.Rest.{one_more, first_of, others_of}
use Rattle.task_sites.proofs.levels.in_order_on.Goals as goal

pub run_task-requires-clause-depth : goal.run_task-requires-clause-depth
run_task-requires-clause-depth g c =
    let h : g.T.TaskKind.depth c.in-Some.task ≤ g.L.Levels.count =
    first_of (λ task. g.T.TaskKind.depth task ≤ g.L.Levels.count) c.in-Some.task (into_iter_items c.next.new.self) (into_iter_items c.tasks.rest) c.in-Some.ensures.items c.tasks.invariant.shallow in
    subst (λ (n : ℕ). g.T.TaskKind.depth c.in-Some.task ≤ n) (sym c.number.ensures) h

pub run_task-requires-clause-ready : goal.run_task-requires-clause-ready
run_task-requires-clause-ready g c =
    first_of g.T.TaskKind.ready c.in-Some.task (into_iter_items c.next.new.self) (into_iter_items c.tasks.rest) c.in-Some.ensures.items c.tasks.invariant.ready

pub tasks-preserved : goal.tasks-preserved
tasks-preserved g c =
    let i = c.tasks.invariant in record {
      ran = one_more g.T.TaskKind.gives c.args.tasks.items c.tasks.outputs.items c.in-Some.task (into_iter_items c.next.new.self) (into_iter_items c.tasks.rest) c.in_ok-run_task.field-0 c.push_reserved.new.self.items c.in-Some.ensures.items c.in_ok-run_task.ensures.output c.push_reserved.ensures.items i.ran;
      shallow = others_of (λ task. g.T.TaskKind.depth task ≤ g.L.Levels.count) c.in-Some.task (into_iter_items c.next.new.self) (into_iter_items c.tasks.rest) c.in-Some.ensures.items i.shallow;
      ready = others_of g.T.TaskKind.ready c.in-Some.task (into_iter_items c.next.new.self) (into_iter_items c.tasks.rest) c.in-Some.ensures.items i.ready;
      count = omega (arith, c.in-Some.ensures.len, i.count, ap length c.in-Some.ensures.items);
      room = omega (arith, c.in-Some.ensures.len, i.room, c.push_reserved.ensures.len, c.push_reserved.ensures.capacity);
    }
