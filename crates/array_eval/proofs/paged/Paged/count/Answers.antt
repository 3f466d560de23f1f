use Rattle.std.proofs.Common.{length, sym, ap, ◌∙◌}
use Rattle.array_eval.proofs.PageLemmas.{length_seen}
use Rattle.array_eval.proofs.paged.Paged.count.Goals as goal

pub returns : goal.returns
returns c = sym (length_seen c.self.inside.count c.self.inside.pages.items c.self.invariant) ∙ ap length c.self.view_is
