use Rattle.std.proofs.Common.{◌≡◌, ◌<◌, ◌-◌, ◌+◌, map, length, get_or, set, ap, subst, arith}
use Rattle.deque_rows.specs.Account.{idle}
use Rattle.deque_rows.specs.Rows.{home_logs}
use Rattle.deque_rows.proofs.Places.{home_log_of, room_after}
use Rattle.deque_rows.proofs.hart.HartRows.push.Goals as goal

pub returns-clause-room : goal.returns-clause-room
returns-clause-room c =
    let rows = c.args.self.now in
    let own = rows.own.ok in
    let levels = rows.levels in
    let level = c.from.ensures in
    let there : c.from.result - 1 < length rows.own.items = omega (arith, c.requires.level.0, c.requires.level.1, own, levels, level) in
    let after = map home_log_of (set rows.own.items (c.from.result - 1) c.push.new.self) in
    subst (λ n. length (get_or after n idle).pushed ≡ length (get_or (home_logs rows) n idle).pushed + 1) (ap (λ k. k - 1) level)
    (room_after rows.own.items (c.from.result - 1) c.push.new.self c.index_mut.result.now c.args.code c.index_mut.ensures.value there c.push.ensures.pushed)
