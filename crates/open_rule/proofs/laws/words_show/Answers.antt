use Rattle.open_rule.proofs.Sorts.{words_show}
use Rattle.open_rule.proofs.laws.words_show.Goals as goal

pub returns : goal.returns
returns c = words_show
