use Rattle.std.proofs.Common.{sym, ◌∙◌}
use Rattle.std.proofs.lemmas.Bool.{false≢true}
use Rattle.array_eval.proofs.OverlayLemmas.{stands, would_stand}
use Rattle.array_eval.proofs.overlay.find.Goals as goal

pub returns-then-is_there : goal.returns-then-is_there
returns-then-is_there c = record {
  there = stands c.args.cell c.args.pairs.now c.place-place.result c.place-place.ensures.place (c.is_there.ensures.0 c.if-is_there.true);
  missing = tt;
}

pub returns-else-is_there : goal.returns-else-is_there
returns-else-is_there c = record {
  there = tt;
  missing = would_stand c.args.cell c.args.pairs.now c.place-place.result c.requires c.place-place.ensures.place
      (λ there. false≢true (sym c.if-is_there.false ∙ c.is_there.ensures.1 there));
}
