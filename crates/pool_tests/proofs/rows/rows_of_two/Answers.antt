use Rattle.std.proofs.Common.{◌≡◌, length, arith}
use Rattle.deque_rows.proofs.Callers.{last_reaches, rest_reach, reaches_all}
use Rattle.pool_tests.proofs.rows.rows_of_two.Goals as goal

pub returns-in-Some-pop : goal.returns-in-Some-pop
returns-in-Some-pop c =
    let all = c.in_ok-all.all in
    let rest = c.pop.new.self.items in
    let count = length all.items in
    let reach = reaches_all all.items c.in_ok-all.ensures.all in
    let second : c.in-Some.second.harts ≡ count = last_reaches all.items rest c.in-Some.second count c.in-Some.ensures.items reach in
    let first : c.in-Some-pop.first.harts ≡ count = last_reaches rest c.pop-2.new.self.items c.in-Some-pop.first count c.in-Some-pop.ensures.items (rest_reach all.items rest c.in-Some.second count c.in-Some.ensures.items reach) in
    (omega (arith, first, all.ok.0, c.in_ok-all.ensures.count), omega (arith, second, all.ok.0, c.in_ok-all.ensures.count))
