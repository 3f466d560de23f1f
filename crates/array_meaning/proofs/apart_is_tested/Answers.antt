use Rattle.array_meaning.proofs.OverlapLemmas.{apart_of_clear, clear_of_apart}
use Rattle.array_meaning.proofs.apart_is_tested.Goals as goal

pub returns : goal.returns
returns c arrays pieces = record { clear = clear_of_apart arrays pieces; apart = apart_of_clear arrays pieces }
