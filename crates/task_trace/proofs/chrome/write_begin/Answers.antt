use Rattle.std.proofs.Common.{◌++◌, ◌∷◌, [], None, codes}
use Rattle.serde.specs.Event.{field_key, map_begins, map_ends}
use Rattle.serde.specs.declared.name.Case.TheVariants.{AsIs}
use Rattle.task_trace.specs.Chrome.{common_members, number_member}
use Rattle.task_trace.proofs.Growing.{one, both}
use Rattle.task_trace.proofs.chrome.write_begin.Goals as goal

pub returns : goal.returns
returns g c =
    let s0 = g.S.Serializer.written c.args.out.now in
    let s1 = g.S.Serializer.written c.write_common.new.out in
    let s2 = g.S.Serializer.written c.key.new.self in
    let s3 = g.S.Serializer.written c.begin_map.new.self in
    let s4 = g.S.Serializer.written c.write_number.new.out in
    let s5 = g.S.Serializer.written c.end_map.new.self in
    let s6 = g.S.Serializer.written c.end_map-2.new.self in
    let common = common_members (codes "B") c.args.nanos c.args.hart in
    let key = field_key (codes "args") AsIs in
    let site = number_member (codes "site") c.args.site in
    let ends = map_ends ∷ [] in
    both s0 s1 s6 common (key ∷ map_begins None ∷ site ++ (ends ++ ends)) c.in_ok-write_common.ensures
    (both s1 s2 s6 (key ∷ []) (map_begins None ∷ site ++ (ends ++ ends)) (one s1 s2 key c.in_ok-key.ensures)
    (both s2 s3 s6 (map_begins None ∷ []) (site ++ (ends ++ ends)) (one s2 s3 (map_begins None) c.in_ok-begin_map.ensures)
    (both s3 s4 s6 site (ends ++ ends) c.in_ok-write_number.ensures
    (both s4 s5 s6 ends ends (one s4 s5 map_ends c.in_ok-end_map.ensures) (one s5 s6 map_ends c.in_ok-end_map-2.ensures)))))
