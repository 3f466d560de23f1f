use Rattle.std.proofs.Common.{◌≡◌, ◌≤◌, ◌++◌, drop, map}
use Rattle.std.specs.List.{filter}
use Rattle.array_tree.specs.Trees.{sequence_of, declaration_of}
use Rattle.array_meaning.specs.Stores.{arrays_of, cells_of}
use Rattle.spread_laws.specs.Rows.{is_tallied, rows_declaration}
use Rattle.tally_cells.proofs.rows.push_declarations.Given as goal

abbrev pub invariant-loop-array : goal.invariant-loop-array
invariant-loop-array l = record {
  rest : map declaration_of l.out.items
      ++ map (rows_declaration (sequence_of l.body)) (filter (λ d. is_tallied (sequence_of l.body) d.name) (map declaration_of (drop l.array-index l.arrays)))
      ≡ map declaration_of l.fn.out.items
      ++ map (rows_declaration (sequence_of l.body)) (filter (λ d. is_tallied (sequence_of l.body) d.name) (map declaration_of l.arrays));
  cells : cells_of (arrays_of (map declaration_of (drop l.array-index l.arrays))) ≤ 4096;
}
