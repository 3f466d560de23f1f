use Rattle.std.proofs.Common.{◌<◌, ◌∙◌, alloc_error, length, arith}
use Rattle.task_table.proofs.Steps.{there}
use Rattle.task_sites.proofs.Places.{one_more, first_failed}
use Rattle.task_sites.proofs.collect.collect_all.Goals as goal

pub places-preserved : goal.places-preserved
places-preserved g c =
    let i = c.places.invariant in
    let tasks = c.args.table.now.table.shared.key.value.items in
    let at : c.places.place < length tasks = omega (arith, c.count-count.ensures, c.places-test.true) in
    let t = there tasks c.places.place at in record {
      of = c.in-Ok.ensures.of ∙ i.of;
      knows = c.in-Ok.ensures.knows ∙ i.knows;
      within = omega (arith, c.places-test.true);
      len = omega (arith, c.push_reserved.ensures.len, i.len);
      room = c.push_reserved.ensures.capacity ∙ i.room;
      came = one_more g.T.TaskKind.gives tasks c.places.place t.0 c.places.outputs.items c.push_reserved.new.self.items c.in-Ok.output t.1 (c.in-Ok.ensures.outcome t.0 t.1).0 c.push_reserved.ensures.items i.came;
    }

pub returns-in-Err-clause-error : goal.returns-in-Err-clause-error
returns-in-Err-clause-error g c =
    let i = c.places.invariant in
    let tasks = c.args.table.now.table.shared.key.value.items in
    let at : c.places.place < length tasks = omega (arith, c.count-count.ensures, c.places-test.true) in
    let t = there tasks c.places.place at in
    first_failed g.T.TaskKind.gives g.T.TaskKind.fails (g.T.Error.From.from_gives alloc_error) tasks c.places.place t.0 c.in-Err.error c.places.outputs.items t.1 (c.in-Err.ensures.outcome t.0 t.1).1 i.came
