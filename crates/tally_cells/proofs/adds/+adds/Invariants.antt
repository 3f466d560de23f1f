use Rattle.std.proofs.Common.{◌≡◌, drop, map}
use Rattle.array_tree.specs.Trees.{statement_of, sequence_of, sequences_of, sequence, sequences}
use Rattle.spread_laws.specs.Adds.{has_add, have_add}
use Rattle.tally_cells.proofs.adds.+adds.Given as goal

abbrev pub invariant-has_add-loop-statement : goal.invariant-has_add-loop-statement
invariant-has_add-loop-statement l = has_add l.name (sequence (map statement_of (drop l.statement-index l.statement-items))) ≡ has_add l.name (sequence_of l.block)

abbrev pub invariant-have_add-loop-block : goal.invariant-have_add-loop-block
invariant-have_add-loop-block l = have_add l.name (sequences (map sequence_of (drop l.block-index l.block-items))) ≡ have_add l.name (sequences_of l.blocks)
