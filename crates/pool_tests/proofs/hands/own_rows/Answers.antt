use Rattle.std.proofs.Common.{◌≡◌, length, arith}
use Rattle.deque_rows.proofs.Callers.{last_reaches, reaches_all}
use Rattle.pool_tests.proofs.hands.own_rows.Goals as goal

pub returns-in-Some : goal.returns-in-Some
returns-in-Some c =
    let all = c.in_ok-all.all in
    let harts : c.in-Some.rows.harts ≡ length all.items = last_reaches all.items c.pop.new.self.items c.in-Some.rows (length all.items) c.in-Some.ensures.items (reaches_all all.items c.in_ok-all.ensures.all) in
    omega (arith, harts, all.ok.0, c.in_ok-all.ensures.count)
