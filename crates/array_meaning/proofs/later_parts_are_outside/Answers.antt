use Rattle.array_meaning.proofs.NestingLemmas.{later_parts_are_outside}
use Rattle.array_meaning.proofs.later_parts_are_outside.Goals as goal

pub returns : goal.returns
returns c = later_parts_are_outside
