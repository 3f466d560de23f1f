use Rattle.std.proofs.Common.{sym, arith}
use Rattle.lithe_call.proofs.Endings.{second_short}
use Rattle.lithe_call.proofs.audit.audited.Goals as goal

pub verdict-requires-clause-short_output : goal.verdict-requires-clause-short_output
verdict-requires-clause-short_output c =
    let within = second_short c.args.bytes.now c.in-Some.first.now c.in-Some.second.now (sym c.in-Some.ensures) in
    omega (arith, within, c.requires.short)
