use Rattle.std.proofs.Common.{◌≡◌, ◌≤◌, ◌+◌, ◌-◌, ◌^◌, drop, map}
use Rattle.array_tree.specs.Trees.{statement_of, sequence_of, sequences_of, sequence, sequences}
use Rattle.array_meaning.specs.Limits.{units_of, branches_units_of, phases_units_of}
use Rattle.site_counts.specs.Capped.{capped}
use Rattle.disjoint_check.proofs.units.+units.Given as goal

abbrev pub invariant-units_of_block-loop-statement : goal.invariant-units_of_block-loop-statement
invariant-units_of_block-loop-statement l = record {
  rest : capped (l.units + units_of (sequence (map statement_of (drop l.statement-index l.statement-items)))) ≡ capped (units_of (sequence_of l.block));
  fits : l.units ≤ 2 ^ 64 - 1;
}

abbrev pub invariant-units_of_branches-loop-branch : goal.invariant-units_of_branches-loop-branch
invariant-units_of_branches-loop-branch l = record {
  rest : capped (l.units + branches_units_of (sequences (map sequence_of (drop l.branch-index l.branch-items)))) ≡ capped (branches_units_of (sequences_of l.branches));
  fits : l.units ≤ 2 ^ 64 - 1;
}

abbrev pub invariant-units_of_phases-loop-phase : goal.invariant-units_of_phases-loop-phase
invariant-units_of_phases-loop-phase l = record {
  rest : capped (l.units + phases_units_of (sequences (map sequence_of (drop l.phase-index l.phase-items))) l.members l.iterations)
      ≡ capped (phases_units_of (sequences_of l.phases) l.members l.iterations);
  fits : l.units ≤ 2 ^ 64 - 1;
}
