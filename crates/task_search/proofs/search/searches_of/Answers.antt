use Rattle.std.proofs.Common.{refl, arith, rules}
use Rattle.task_search.specs.Searches.{IsSearchOf}
use Rattle.task_search.proofs.Finds.{AllZip-more}
use Rattle.task_search.proofs.search.searches_of.Goals as goal

pub loop-tree-preserved : goal.loop-tree-preserved
loop-tree-preserved g c = (
  rw c.push_reserved.ensures.items
      (AllZip-more (IsSearchOf c.args.wanted.now c.args.levels) c.args.trees.now c.loop-tree.tree-index c.tree-item.result c.loop-tree.searches.items _
      (omega arith) c.tree-item.is c.loop-tree.invariant.0 (refl, refl, refl)),
  search rules,
  search rules,
)
