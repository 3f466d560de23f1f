use Rattle.std.proofs.Common.{◌≡◌, drop, map}
use Rattle.array_tree.specs.Trees.{statement_of, sequence_of, sequences_of, sequence, sequences, declarations_of}
use Rattle.array_meaning.specs.Names.{names_of}
use Rattle.disjoint_check.specs.Inside.Around.{vars_around}
use Rattle.disjoint_check.specs.FirstNames.{unknown_in, unknown_among}
use Rattle.disjoint_check.proofs.names.+unknown.Given as goal

abbrev pub invariant-unknown_in_block-loop-statement : goal.invariant-unknown_in_block-loop-statement
invariant-unknown_in_block-loop-statement l =
    unknown_in (sequence (map statement_of (drop l.statement-index l.statement-items))) (names_of (declarations_of l.arrays)) (vars_around l.loops) ≡ unknown_in (sequence_of l.block) (names_of (declarations_of l.arrays)) (vars_around l.loops)

abbrev pub invariant-unknown_among-loop-block : goal.invariant-unknown_among-loop-block
invariant-unknown_among-loop-block l =
    unknown_among (sequences (map sequence_of (drop l.block-index l.block-items))) (names_of (declarations_of l.arrays)) (vars_around l.loops) ≡ unknown_among (sequences_of l.blocks) (names_of (declarations_of l.arrays)) (vars_around l.loops)
