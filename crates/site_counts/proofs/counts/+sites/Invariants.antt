use Rattle.std.proofs.Common.{◌≡◌, ◌≤◌, ◌+◌, ◌-◌, ◌^◌, drop, map}
use Rattle.array_tree.specs.Trees.{statement_of, sequence_of, sequences_of, sequence, sequences}
use Rattle.array_meaning.specs.Plans.{sites_in, branches_sites_in}
use Rattle.site_counts.specs.Capped.{capped}
use Rattle.site_counts.proofs.counts.+sites.Given as goal

abbrev pub invariant-sites_in_block-loop-statement : goal.invariant-sites_in_block-loop-statement
invariant-sites_in_block-loop-statement l = record {
  rest : capped (l.sites + sites_in (sequence (map statement_of (drop l.statement-index l.statement-items)))) ≡ capped (sites_in (sequence_of l.block));
  fits : l.sites ≤ 2 ^ 64 - 1;
}

abbrev pub invariant-sites_among-loop-block : goal.invariant-sites_among-loop-block
invariant-sites_among-loop-block l = record {
  rest : capped (l.sites + branches_sites_in (sequences (map sequence_of (drop l.block-index l.block-items)))) ≡ capped (branches_sites_in (sequences_of l.blocks));
  fits : l.sites ≤ 2 ^ 64 - 1;
}
