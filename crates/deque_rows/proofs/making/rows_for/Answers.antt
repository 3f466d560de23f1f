use Rattle.std.proofs.Common.{◌≡◌, ◌++◌, length, take, drop, get_or, map, sym, ap, subst, ◌∙◌, arith}
use Rattle.std.proofs.Math.Seq.{take-append_seam}
use Rattle.deque_rows.specs.Rows.{HasRooms, rooms}
use Rattle.deque_rows.proofs.Makes.{have_rooms}
use Rattle.deque_rows.proofs.making.rows_for.Goals as goal

pub returns-clause-rooms : goal.returns-clause-rooms
returns-clause-rooms c =
    let made = c.in_ok-rows.rows in
    let now = c.reach_all.new.rows in
    let long : made.len ≡ length now = (let a = c.reach_all.auto.rows in let b = c.as_mut_slice.ensures.len in let k = made.ok in omega (arith, a, b, k)) in
    let back : take made.len (now ++ drop (length now) made.items) ≡ now = ap (λ n. take n (now ++ drop (length now) made.items)) long ∙ take-append_seam now (drop (length now) made.items) in
    let same : map rooms now ≡ map rooms made.items = c.in_ok-reach_all.ensures.rooms ∙ ap (map rooms) c.as_mut_slice.ensures.value in
    λ h d there. subst (λ l. HasRooms c.args.room (get_or l h d)) (sym back) (have_rooms c.args.harts c.args.room made.items now same c.in_ok-rows.ensures.rooms h d there)
