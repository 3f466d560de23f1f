use Rattle.std.proofs.Common.{◌≡◌, ◌-◌, suc, [], length, slice_index, ap, subst, arith}
use Rattle.array_jobs.specs.Jobs.{JobParts}
use Rattle.deque_rows.specs.Rows.{Identity}
use Rattle.deque_rows.specs.Calls.{Pushes}
use Rattle.forkjoin_sched.specs.Hands.{code_at}
use Rattle.forkjoin_sched.proofs.Offered.{HasOffered, offered_none, offered_skip, offered_more, offered_all}
use Rattle.forkjoin_sched.proofs.RowSteps.{room_after, falls_count}
use Rattle.forkjoin_sched.proofs.offering.offer_jobs.Goals as goal

pub loop-place-init : goal.loop-place-init
loop-place-init g c = ([], offered_none c.args.site c.args.level (length c.args.slots.now) c.args.pool.now c.args.rows.now)

pub push-requires-clause-room : goal.push-requires-clause-room
push-requires-clause-room g c =
    let h = c.loop-place.invariant in
    let few = falls_count (length c.args.slots.now) c.loop-place.place h.0 h.1.falling in
    let is = room_after c.args.site c.args.level h.0 c.args.rows.now c.loop-place.rows c.requires.level h.1.pushes in
    let room = c.requires.room in
    let there = c.loop-place-test.true in
    let made = ap (λ (k : Identity). slice_index k.rooms (c.args.level - 1)) h.1.pushes.identity in
    omega (arith, few, is, room, there, made)

pub loop-place-preserved-in-Some : goal.loop-place-preserved-in-Some
loop-place-preserved-in-Some g c =
    let h = c.loop-place.invariant in
    let k = c.loop-place.place - 1 in
    let there = c.loop-place-test.true in
    let same : c.loop-place.place ≡ suc k = omega (arith, there) in
    let so = subst (λ n. HasOffered c.args.site c.args.level (length c.args.slots.now) n c.args.pool.now c.args.rows.now h.0 c.loop-place.pool c.loop-place.rows) same h.1 in
    let coded = subst (λ n. Pushes c.loop-place.rows c.args.level n c.push.new.self) c.code_at-code.ensures c.push.ensures.pushes in
    let push = subst (λ n. Pushes c.loop-place.rows c.args.level (code_at c.args.site n) c.push.new.self) (ap (λ (j : JobParts). j.place) c.job.view_is) coded in (
      _,
      offered_more c.args.site c.args.level (length c.args.slots.now) k c.args.pool.now c.loop-place.pool c.take_last.new.self c.args.rows.now c.loop-place.rows c.push.new.self h.0 c.in-Some.job c.requires.level so c.in-Some.ensures c.push.ensures.identity push,
    )

pub loop-place-preserved : goal.loop-place-preserved
loop-place-preserved g c =
    let h = c.loop-place.invariant in
    let k = c.loop-place.place - 1 in
    let there = c.loop-place-test.true in
    let same : c.loop-place.place ≡ suc k = omega (arith, there) in
    let so = subst (λ n. HasOffered c.args.site c.args.level (length c.args.slots.now) n c.args.pool.now c.args.rows.now h.0 c.loop-place.pool c.loop-place.rows) same h.1 in (
      _,
      offered_skip c.args.site c.args.level (length c.args.slots.now) k c.args.pool.now c.loop-place.pool c.take_last.new.self c.args.rows.now c.loop-place.rows h.0 so c.in_default.ensures,
    )

pub returns : goal.returns
returns g c =
    let h = c.loop-place.invariant in
    let over = c.loop-place-test.false in
    let same : c.loop-place.place ≡ 0 = omega (arith, over) in (
      h.0,
      offered_all c.args.site c.args.level (length c.args.slots.now) c.args.pool.now c.loop-place.pool c.args.rows.now c.loop-place.rows h.0
          (subst (λ n. HasOffered c.args.site c.args.level (length c.args.slots.now) n c.args.pool.now c.args.rows.now h.0 c.loop-place.pool c.loop-place.rows) same h.1),
    )
