use Rattle.std.proofs.Common.{◌≡◌, ◌≤◌, drop, take, map, length}
use Rattle.array_tree.specs.Trees.{declaration_of}
use Rattle.array_meaning.specs.Stores.{arrays_of, cells_of}
use Rattle.array_eval.specs.Layouts.{AreFirsts}
use Rattle.array_eval.proofs.layout.put_firsts.Given as goal

abbrev pub invariant-loop-left : goal.invariant-loop-left
invariant-loop-left l = record {
  within : l.left ≤ length l.declarations;
  base : l.base ≡ cells_of (arrays_of (map declaration_of (take l.left l.declarations)));
  right : AreFirsts l.left l.base (arrays_of (map declaration_of (drop l.left l.declarations))) l.firsts;
}

abbrev pub decreases-loop-left : goal.decreases-loop-left
decreases-loop-left l = l.left
