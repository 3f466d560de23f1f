use Rattle.std.proofs.Common.{OnOk, rules}
use Rattle.std.specs.Fmt.{signed_decimal}
use Rattle.array_print.specs.Texts.{range_text}
use Rattle.array_print.specs.Printers.{Adds}
use Rattle.array_print.proofs.Written.{same_text, then_adds, on_then}
use Rattle.array_print.proofs.printer.Printer.dealt.Goals as goal

pub returns : goal.returns
returns c =
    let bounds : Adds c.args.self.now (range_text c.args.var.now c.args.low c.args.high) c.range.new.self = search rules in
    let number : OnOk c.number.result (Adds c.add.new.self (signed_decimal c.args.members) c.number.new.self) = search rules in
    on_then c.number.result c.number.new.self (signed_decimal c.args.members) (then_adds bounds (same_text c.as_slice.ensures c.in_ok-add.ensures)) number
