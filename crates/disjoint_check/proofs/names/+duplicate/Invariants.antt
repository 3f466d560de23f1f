use Rattle.std.proofs.Common.{◌≡◌, ◌++◌, drop, map}
use Rattle.array_tree.specs.Trees.{statement_of, sequence_of, sequences_of, sequence, sequences, declarations_of}
use Rattle.array_meaning.specs.Names.{names_of}
use Rattle.disjoint_check.specs.Inside.Around.{vars_around}
use Rattle.disjoint_check.specs.FirstNames.{duplicate_in, duplicate_among}
use Rattle.disjoint_check.proofs.names.+duplicate.Given as goal

abbrev pub invariant-duplicate_in_block-loop-statement : goal.invariant-duplicate_in_block-loop-statement
invariant-duplicate_in_block-loop-statement l =
    duplicate_in (sequence (map statement_of (drop l.statement-index l.statement-items))) (vars_around l.loops ++ names_of (declarations_of l.arrays)) ≡ duplicate_in (sequence_of l.block) (vars_around l.loops ++ names_of (declarations_of l.arrays))

abbrev pub invariant-duplicate_among-loop-block : goal.invariant-duplicate_among-loop-block
invariant-duplicate_among-loop-block l =
    duplicate_among (sequences (map sequence_of (drop l.block-index l.block-items))) (vars_around l.loops ++ names_of (declarations_of l.arrays)) ≡ duplicate_among (sequences_of l.blocks) (vars_around l.loops ++ names_of (declarations_of l.arrays))
