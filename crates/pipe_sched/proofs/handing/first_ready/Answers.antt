use Rattle.std.proofs.Common.{◌≡◌, ◌+◌, ◌*◌, ◌<◌, ◌≤◌, length, ◌∙◌, arith}
use Rattle.pipe_sched.proofs.Next.{row_within, none_in_row, none_before_next}
use Rattle.pipe_sched.proofs.handing.first_ready.Goals as goal

pub loop-member-init : goal.loop-member-init
loop-member-init c = λ i less look. omega arith

pub ready_place-requires-clause-row : goal.ready_place-requires-clause-row
ready_place-requires-clause-row c =
    row_within c.loop-member.member c.args.phases (length c.args.next.now) (length c.args.slots.now) c.loop-member-test.true c.requires.places

pub returns-in-Some-clause-first : goal.returns-in-Some-clause-first
returns-in-Some-clause-first c =
    let room = row_within c.loop-member.member c.args.phases (length c.args.next.now) (length c.args.slots.now) c.loop-member-test.true c.requires.places in
    none_before_next c.args.phases c.args.slots.now c.args.next.now c.loop-member.member c.from-phase.result c.in-Some.place c.requires.next room c.from-phase.ensures
    c.in-Some.ensures.there.0 c.in-Some.ensures.there.1 c.loop-member.invariant

pub loop-member-preserved : goal.loop-member-preserved
loop-member-preserved c =
    let room = row_within c.loop-member.member c.args.phases (length c.args.next.now) (length c.args.slots.now) c.loop-member-test.true c.requires.places in
    none_in_row c.args.phases c.args.slots.now c.args.next.now c.loop-member.member c.from-phase.result c.requires.next room c.from-phase.ensures
    c.in_default.ensures.none c.loop-member.invariant
