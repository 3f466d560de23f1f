use Rattle.std.proofs.Common.{◌+◌, List, take, sym, subst, arith}
use Rattle.serde.specs.Event as serde
use Rattle.task_trace.specs.declared.event.Event.{Event}
use Rattle.task_trace.specs.Chrome.{Grows, hart_members, members_from}
use Rattle.task_trace.proofs.Growing.{both}
use Rattle.task_trace.proofs.Members.{members_more}
use Rattle.task_trace.proofs.chrome.write_harts.Goals as goal

pub harts-preserved : goal.harts-preserved
harts-preserved g c =
    let s0 = g.S.Serializer.written c.args.out.now in
    let s1 = g.S.Serializer.written c.harts.out in
    let s2 = g.S.Serializer.written c.write_hart.new.out in
    let hs = c.args.harts.now in
    let i = c.harts.hart in
    let h = c.index-harts-hart.result in
    let own : Grows s1 s2 (hart_members i h.items) = subst (λ (es : List Event). Grows s1 s2 (hart_members i es)) c.as_slice.ensures.value c.in_ok-write_hart.ensures in
    subst (λ (calls : List serde.Event). Grows s0 s2 calls) (sym (members_more hs i h (omega (arith, c.harts-test.true)) c.index-harts-hart.is))
    (both s0 s1 s2 (members_from 0 (take i hs)) (hart_members i h.items) c.harts.invariant own)
