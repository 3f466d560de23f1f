use Rattle.std.proofs.Common.{sym, arith}
use Rattle.lithe_call.proofs.Endings.{second_short}
use Rattle.picture_call.proofs.drawing.drawn.Goals as goal

pub picture-requires-clause-short_output : goal.picture-requires-clause-short_output
picture-requires-clause-short_output c =
    let within = second_short c.args.bytes.now c.in-Some.first.now c.in-Some.second.now (sym c.in-Some.ensures) in
    omega (arith, within, c.requires.short)
