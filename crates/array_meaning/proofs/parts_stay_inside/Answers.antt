use Rattle.array_meaning.proofs.NestingLemmas.{stay_inside_parts}
use Rattle.array_meaning.proofs.parts_stay_inside.Goals as goal

pub returns : goal.returns
returns c = stay_inside_parts
