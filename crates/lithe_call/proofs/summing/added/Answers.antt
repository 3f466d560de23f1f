use Rattle.std.specs.Int.{w64}
use Rattle.std.proofs.lemmas.Int.{wrapping_add_is}
use Rattle.lithe_call.proofs.summing.added.Goals as goal

pub returns : goal.returns
returns c = wrapping_add_is w64 c.args.sum c.args.value c.ranges.sum c.ranges.value
