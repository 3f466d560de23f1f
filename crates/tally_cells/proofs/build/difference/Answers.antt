use Rattle.std.proofs.Common.{w64}
use Rattle.std.proofs.lemmas.Int.{wrapping_sub_is}
use Rattle.tally_cells.proofs.build.difference.Goals as goal

pub returns : goal.returns
returns c = wrapping_sub_is w64 c.args.high c.args.low c.ranges.high c.ranges.low
