use Rattle.std.proofs.Common.{arith, ◌∙◌}
use Rattle.std.proofs.lemmas.Grind.{common_steps}
use Rattle.std.proofs.lemmas.Bool.Decides.{nat_tests}
use Rattle.array_lang.proofs.ScanStep.{nested_step}
use Rattle.array_lang.proofs.nesting.nested_at.Goals as goal

pub loop-index-preserved : goal.loop-index-preserved
loop-index-preserved c = record {
  found = nested_step c.args.tokens.now c.loop-index.index _ c.index-tokens-index.result c.loop-index.reach c.after-reach.result c.loop-index.depth c.depth_after-depth.result (omega arith) c.index-tokens-index.is c.after-reach.ensures c.depth_after-depth.ensures c.if-is_over.ensures ∙ c.loop-index.invariant.found;
  depth = grind (arith, common_steps, nat_tests);
  marks = grind (arith, common_steps, nat_tests);
}
