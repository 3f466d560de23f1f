use Rattle.std.proofs.Common.{◌≡◌, ◌-◌, drop, map}
use Rattle.array_tree.specs.Trees.{statement_of, sequence_of, sequences_of, sequence, sequences}
use Rattle.disjoint_check.specs.Inside.Unrolled.{with_sequence, with_branches, with_phases, repeat}
use Rattle.disjoint_check.proofs.unroll.+unroll.Given as goal

abbrev pub invariant-unroll_block-loop-statement : goal.invariant-unroll_block-loop-statement
invariant-unroll_block-loop-statement l =
    with_sequence (sequence (map statement_of (drop l.statement-index l.statement-items))) l.around l.sites.items
    ≡ with_sequence (sequence_of l.block) l.around l.fn.sites.items

abbrev pub invariant-unroll_branches-loop-branch : goal.invariant-unroll_branches-loop-branch
invariant-unroll_branches-loop-branch l =
    with_branches (sequences (map sequence_of (drop l.branch-index l.branch-items))) l.around l.sites.items
    ≡ with_branches (sequences_of l.branches) l.around l.fn.sites.items

abbrev pub invariant-unroll_phases-loop-phase : goal.invariant-unroll_phases-loop-phase
invariant-unroll_phases-loop-phase l =
    with_phases (sequences (map sequence_of (drop l.phase-index l.phase-items))) l.iterations l.around l.sites.items
    ≡ with_phases (sequences_of l.phases) l.iterations l.around l.fn.sites.items

abbrev pub invariant-unroll_turns-loop-turn : goal.invariant-unroll_turns-loop-turn
invariant-unroll_turns-loop-turn l =
    repeat (l.turns - l._turn) (with_sequence (sequence_of l.body) l.around) l.sites.items
    ≡ repeat l.turns (with_sequence (sequence_of l.body) l.around) l.fn.sites.items
