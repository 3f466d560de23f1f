use Rattle.std.proofs.Common.{◌++◌, ◌∷◌, [], None, codes}
use Rattle.serde.specs.Event.{field_key, map_begins, map_ends, seq_begins, seq_ends}
use Rattle.serde.specs.declared.name.Case.TheVariants.{AsIs}
use Rattle.task_trace.specs.Chrome.{members_from, text_member}
use Rattle.task_trace.proofs.Growing.{one, both}
use Rattle.task_trace.proofs.chrome.ChromeTraceSerialize.serialize.Goals as goal

pub returns : goal.returns
returns g c =
    let s0 = g.S.Serializer.written c.args.out.now in
    let s1 = g.S.Serializer.written c.begin_map.new.self in
    let s2 = g.S.Serializer.written c.key.new.self in
    let s3 = g.S.Serializer.written c.begin_seq.new.self in
    let s4 = g.S.Serializer.written c.write_harts.new.out in
    let s5 = g.S.Serializer.written c.end_seq.new.self in
    let s6 = g.S.Serializer.written c.write_text.new.out in
    let s7 = g.S.Serializer.written c.end_map.new.self in
    let key = field_key (codes "traceEvents") AsIs in
    let events = members_from 0 c.args.self.now.harts.now in
    let unit = text_member (codes "displayTimeUnit") (codes "ns") in
    let end = map_ends ∷ [] in
    both s0 s1 s7 (map_begins None ∷ []) (key ∷ seq_begins None ∷ (events ++ (seq_ends ∷ unit ++ end))) (one s0 s1 (map_begins None) c.in_ok-begin_map.ensures)
    (both s1 s2 s7 (key ∷ []) (seq_begins None ∷ (events ++ (seq_ends ∷ unit ++ end))) (one s1 s2 key c.in_ok-key.ensures)
    (both s2 s3 s7 (seq_begins None ∷ []) (events ++ (seq_ends ∷ unit ++ end)) (one s2 s3 (seq_begins None) c.in_ok-begin_seq.ensures)
    (both s3 s4 s7 events (seq_ends ∷ unit ++ end) c.in_ok-write_harts.ensures
    (both s4 s5 s7 (seq_ends ∷ []) (unit ++ end) (one s4 s5 seq_ends c.in_ok-end_seq.ensures)
    (both s5 s6 s7 unit end c.in_ok-write_text.ensures (one s6 s7 map_ends c.in_ok-end_map.ensures))))))
