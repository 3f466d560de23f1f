use Rattle.std.proofs.Common.{◌+◌, List, take, sym, subst, arith}
use Rattle.serde.specs.Event as serde
use Rattle.task_trace.specs.Chrome.{Grows, hart_members}
use Rattle.task_trace.proofs.Growing.{both}
use Rattle.task_trace.proofs.Members.{hart_more}
use Rattle.task_trace.proofs.chrome.write_hart.Goals as goal

pub events-preserved : goal.events-preserved
events-preserved g c =
    let s0 = g.S.Serializer.written c.args.out.now in
    let s1 = g.S.Serializer.written c.events.out in
    let s2 = g.S.Serializer.written c.write_event.new.out in
    let h = c.args.hart in
    let es = c.args.events.now in
    let i = c.events.index in
    subst (λ (calls : List serde.Event). Grows s0 s2 calls) (sym (hart_more h es i _ (omega (arith, c.events-test.true))))
    (both s0 s1 s2 (hart_members h (take i es)) _ c.events.invariant c.in_ok-write_event.ensures)
