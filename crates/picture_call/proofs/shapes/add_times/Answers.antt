use Rattle.std.proofs.Common.{◌≡◌, length, arith, ◌-◌, ◌+◌, ◌<◌, rules}
use Rattle.std.proofs.lemmas.Bool.Decides.{nat_tests}
use Rattle.std.proofs.lemmas.Grind.{common_steps}
use Rattle.std.proofs.lemmas.List.{nil_from_length}
use Rattle.picture_call.specs.Shapes.{turns_of}
use Rattle.picture_call.proofs.Turns.{none_added, turns_more}
use Rattle.journal_picture.proofs.Written.{turn}
use Rattle.picture_call.proofs.shapes.add_times.Goals as goal

pub loop-i-preserved : goal.loop-i-preserved
loop-i-preserved c =
    let once = c.args.once.now in
    let within : c.loop-i._i < c.args.turns = search rules in
    turn c.loop-i.shapes.items c.extend_from_slice.new.self.items once (turns_of (c.args.turns - c.loop-i._i) once)
    (turns_of (c.args.turns - (c.loop-i._i + 1)) once) _ c.loop-i.invariant (turns_more c.args.turns c.loop-i._i once within)
    c.in_ok-extend_from_slice.ensures.items

pub returns-then-is_empty : goal.returns-then-is_empty
returns-then-is_empty c =
    let empty : length c.args.once.now ≡ 0 = grind (arith, common_steps, nat_tests, c.is_empty.ensures) in
    none_added c.args.turns c.args.shapes.now.items c.args.once.now (nil_from_length c.args.once.now empty)
