use Rattle.std.proofs.Common.{◌++◌, ◌∷◌, [], None, codes}
use Rattle.serde.specs.Event.{field_key, double, map_begins}
use Rattle.serde.specs.declared.name.Case.TheVariants.{AsIs}
use Rattle.task_trace.specs.Chrome.{text_member, number_member, micros}
use Rattle.task_trace.proofs.Growing.{one, both}
use Rattle.task_trace.proofs.chrome.write_common.Goals as goal

pub returns : goal.returns
returns g c =
    let s0 = g.S.Serializer.written c.args.out.now in
    let s1 = g.S.Serializer.written c.begin_map.new.self in
    let s2 = g.S.Serializer.written c.write_text.new.out in
    let s3 = g.S.Serializer.written c.write_text-2.new.out in
    let s4 = g.S.Serializer.written c.write_time.new.out in
    let s5 = g.S.Serializer.written c.write_number.new.out in
    let s6 = g.S.Serializer.written c.write_number-2.new.out in
    let name = text_member (codes "name") (codes "task") in
    let kind = text_member (codes "ph") c.args.kind.now in
    let time = field_key (codes "ts") AsIs ∷ double (micros c.args.nanos) ∷ [] in
    let pid = number_member (codes "pid") 0 in
    let tid = number_member (codes "tid") c.args.hart in
    both s0 s1 s6 (map_begins None ∷ []) (name ++ (kind ++ (time ++ (pid ++ tid)))) (one s0 s1 (map_begins None) c.in_ok-begin_map.ensures)
    (both s1 s2 s6 name (kind ++ (time ++ (pid ++ tid))) c.in_ok-write_text.ensures
    (both s2 s3 s6 kind (time ++ (pid ++ tid)) c.in_ok-write_text-2.ensures
    (both s3 s4 s6 time (pid ++ tid) c.in_ok-write_time.ensures
    (both s4 s5 s6 pid tid c.in_ok-write_number.ensures c.in_ok-write_number-2.ensures))))
