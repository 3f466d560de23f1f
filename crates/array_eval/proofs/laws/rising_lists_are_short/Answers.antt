use Rattle.array_eval.proofs.OverlayLemmas.{rising_short}
use Rattle.array_eval.proofs.laws.rising_lists_are_short.Goals as goal

pub returns : goal.returns
returns c = rising_short
