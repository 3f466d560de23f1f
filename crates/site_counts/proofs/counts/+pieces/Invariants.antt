use Rattle.std.proofs.Common.{◌≡◌, ◌≤◌, ◌+◌, ◌-◌, ◌^◌, drop, map}
use Rattle.array_tree.specs.Trees.{statement_of, sequence_of, sequences_of, sequence, sequences}
use Rattle.array_meaning.specs.Limits.{pieces_in, branches_pieces_in}
use Rattle.site_counts.specs.Capped.{capped}
use Rattle.site_counts.proofs.counts.+pieces.Given as goal

abbrev pub invariant-pieces_in_block-loop-statement : goal.invariant-pieces_in_block-loop-statement
invariant-pieces_in_block-loop-statement l = record {
  rest : capped (l.pieces + pieces_in (sequence (map statement_of (drop l.statement-index l.statement-items)))) ≡ capped (pieces_in (sequence_of l.block));
  fits : l.pieces ≤ 2 ^ 64 - 1;
}

abbrev pub invariant-pieces_among-loop-block : goal.invariant-pieces_among-loop-block
invariant-pieces_among-loop-block l = record {
  rest : capped (l.pieces + branches_pieces_in (sequences (map sequence_of (drop l.block-index l.block-items)))) ≡ capped (branches_pieces_in (sequences_of l.blocks));
  fits : l.pieces ≤ 2 ^ 64 - 1;
}
