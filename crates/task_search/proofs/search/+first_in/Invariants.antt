-- No value in the trees searched so far is wanted.
use Rattle.std.proofs.Common.{◌≡◌, None, take}
use Rattle.std.specs.List.{find, flat_map}
use Rattle.task_search.specs.Preorder.{preorder}
use Rattle.task_search.proofs.search.+first_in.Given as goal

abbrev pub invariant-loop-child : goal.invariant-loop-child
invariant-loop-child g l = find (g.W.Wanted.wants l.wanted) (flat_map preorder (take l.child-index l.child-items)) ≡ None
