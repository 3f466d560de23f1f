use Rattle.std.proofs.Common.{rules, ◌==◌}
use Rattle.std.proofs.lemmas.Iterator.{YieldsList-from_take}
use Rattle.std.proofs.lemmas.Iterator.Consumers.{map_from_collect}
use Rattle.std.proofs.lemmas.Iterator.Splits.{YieldsList-from_slice_split}
use Rattle.journal_text.proofs.read.words_of.Goals as goal

pub returns : goal.returns
returns c = map_from_collect _ c.collect.ensures.ran (YieldsList-from_take 7 (YieldsList-from_slice_split _ (λ byte. byte == 32) c.args.line.now (search rules) (search rules) (search rules) (λ x b q k. search rules)) (search rules))
