use Rattle.std.proofs.Common.{◌≡◌, ◌≤◌, ◌++◌, drop, map}
use Rattle.array_tree.specs.Trees.{statement_of, declaration_of}
use Rattle.array_meaning.specs.Stores.{arrays_of, cells_of}
use Rattle.spread_laws.specs.Spread.{zero_loop, added_in}
use Rattle.tally_cells.proofs.loops.push_zero_loops.Given as goal

abbrev pub invariant-loop-array : goal.invariant-loop-array
invariant-loop-array l = record {
  rest : map statement_of l.out.items
      ++ map (zero_loop l.line l.rows) (added_in (arrays_of (map declaration_of (drop l.array-index l.arrays))) (statement_of l.construct))
      ≡ map statement_of l.fn.out.items
      ++ map (zero_loop l.line l.rows) (added_in (arrays_of (map declaration_of l.arrays)) (statement_of l.construct));
  cells : cells_of (arrays_of (map declaration_of (drop l.array-index l.arrays))) ≤ 4096;
}
