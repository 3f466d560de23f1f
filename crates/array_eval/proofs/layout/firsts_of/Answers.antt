use Rattle.std.proofs.Common.{◌∙◌}
use Rattle.array_eval.proofs.layout.firsts_of.Goals as goal

pub put_firsts-requires-clause-none : goal.put_firsts-requires-clause-none
put_firsts-requires-clause-none c = c.deref_mut.ensures.value ∙ c.in_ok-firsts.ensures
