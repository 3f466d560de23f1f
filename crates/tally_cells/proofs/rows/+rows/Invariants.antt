use Rattle.std.proofs.Common.{◌≡◌, ◌++◌, drop, map}
use Rattle.array_tree.specs.Trees.{statement_of, sequence_of, sequence}
use Rattle.spread_laws.specs.Rows.{rows_with}
use Rattle.tally_cells.proofs.rows.+rows.Given as goal

-- The numbers so far, and those of the remaining statements.
abbrev pub invariant-push_rows-loop-statement : goal.invariant-push_rows-loop-statement
invariant-push_rows-loop-statement l = l.rows.items ++ rows_with l.name (sequence (map statement_of (drop l.statement-index l.statement-items))) ≡ l.fn.rows.items ++ rows_with l.name (sequence_of l.block)
