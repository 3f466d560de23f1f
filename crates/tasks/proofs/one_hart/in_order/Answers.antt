use Rattle.std.proofs.Common.{◌≡◌, ◌≤◌, ℕ, [], All, ap, arith, length, refl, sym, subst, ◌∙◌}
use Rattle.std.specs.Vec.Iter.{into_iter_items, into_iter_len}
use Rattle.tasks.proofs.Rest.{none_of, none_yet, one_more, no_more, first_of, others_of}
use Rattle.tasks.proofs.one_hart.in_order.Goals as goal

pub run-requires-clause-ready : goal.run-requires-clause-ready
run-requires-clause-ready g c =
    first_of g.T.TaskKind.ready c.in-Some.task (into_iter_items c.next.new.self) (into_iter_items c.tasks.rest) c.in-Some.ensures.items c.tasks.invariant.ready

pub run-requires-clause-depth : goal.run-requires-clause-depth
run-requires-clause-depth g c =
    let i = c.tasks.invariant in
    let h : g.T.TaskKind.depth c.in-Some.task ≤ g.H.Harts.levels c.args.harts.now =
    first_of (λ task. g.T.TaskKind.depth task ≤ g.H.Harts.levels c.args.harts.now) c.in-Some.task (into_iter_items c.next.new.self) (into_iter_items c.tasks.rest) c.in-Some.ensures.items i.shallow in
    subst (λ (n : ℕ). g.T.TaskKind.depth c.in-Some.task ≤ n) (sym i.levels) h

pub tasks-init : goal.tasks-init
tasks-init g c = record {
  ran = none_yet g.T.TaskKind.gives c.args.tasks.items c.in_ok-outputs.outputs.items (into_iter_items c.into_iter-rest.result) c.into_iter-rest.ensures.rest c.in_ok-outputs.ensures.items;
  shallow = subst (λ xs. All (λ task. g.T.TaskKind.depth task ≤ g.H.Harts.levels c.args.harts.now) xs) (sym c.into_iter-rest.ensures.rest) c.requires.depth;
  ready = subst (All g.T.TaskKind.ready) (sym c.into_iter-rest.ensures.rest) c.requires.ready;
  count = c.into_iter-rest.ensures.len ∙ (c.args.tasks.ok.0 ∙ ap length (sym c.into_iter-rest.ensures.rest));
  room = omega (arith, c.in_ok-outputs.ensures.len, c.in_ok-outputs.ensures.exact, c.into_iter-rest.ensures.len, c.len.ensures);
  levels = refl;
}

pub tasks-preserved : goal.tasks-preserved
tasks-preserved g c =
    let i = c.tasks.invariant in record {
      ran = one_more g.T.TaskKind.gives c.args.tasks.items c.tasks.outputs.items c.in-Some.task (into_iter_items c.next.new.self) (into_iter_items c.tasks.rest) c.in_ok-run.field-0 c.push_reserved.new.self.items c.in-Some.ensures.items c.in_ok-run.ensures.output c.push_reserved.ensures.items i.ran;
      shallow = others_of (λ task. g.T.TaskKind.depth task ≤ g.H.Harts.levels c.args.harts.now) c.in-Some.task (into_iter_items c.next.new.self) (into_iter_items c.tasks.rest) c.in-Some.ensures.items i.shallow;
      ready = others_of g.T.TaskKind.ready c.in-Some.task (into_iter_items c.next.new.self) (into_iter_items c.tasks.rest) c.in-Some.ensures.items i.ready;
      count = omega (arith, c.in-Some.ensures.len, i.count, ap length c.in-Some.ensures.items);
      room = omega (arith, c.in-Some.ensures.len, i.room, c.push_reserved.ensures.len, c.push_reserved.ensures.capacity);
      levels = c.run.ensures.levels ∙ i.levels;
    }

pub returns-clause-outputs : goal.returns-clause-outputs
returns-clause-outputs g c =
    let none : into_iter_items c.tasks.rest ≡ [] = none_of (into_iter_items c.tasks.rest) (into_iter_len c.tasks.rest) (c.in_default.ensures.cases.0) c.tasks.invariant.count in
    no_more g.T.TaskKind.gives c.args.tasks.items c.tasks.outputs.items (into_iter_items c.tasks.rest) none c.tasks.invariant.ran
