use Rattle.std.proofs.Common.{drop, map, List}
use Rattle.array_tree.specs.Trees.{statement_of, sequence_of, sequences_of, sequence, sequences}
use Rattle.array_meaning.specs.Work.{sequence_work, branches_work, phases_work}
use Rattle.touch_bounds.specs.declared.touch.Touch.{Touch}
use Rattle.touch_bounds.specs.Ranges.{bounds_of}
use Rattle.touch_bounds.specs.Touches.{Widens, IsWorkNoted}
use Rattle.touch_bounds.proofs.work.+note.Given as goal

-- No recorded stretch shrinks. With the remaining statements, all are recorded.
abbrev pub invariant-note_block-loop-statement : goal.invariant-note_block-loop-statement
invariant-note_block-loop-statement l =
    Widens l.fn.touches l.touches
    × ((t : List Touch) → Widens l.touches t →
    IsWorkNoted l.layout t (bounds_of l.ranges) (sequence_work (sequence (map statement_of (drop l.statement-index l.statement-items)))) →
    IsWorkNoted l.layout t (bounds_of l.ranges) (sequence_work (sequence_of l.block)))

abbrev pub invariant-note_branches-loop-branch : goal.invariant-note_branches-loop-branch
invariant-note_branches-loop-branch l =
    Widens l.fn.touches l.touches
    × ((t : List Touch) → Widens l.touches t →
    IsWorkNoted l.layout t (bounds_of l.ranges) (branches_work (sequences (map sequence_of (drop l.branch-index l.branch-items)))) →
    IsWorkNoted l.layout t (bounds_of l.ranges) (branches_work (sequences_of l.branches)))

abbrev pub invariant-note_phases-loop-phase : goal.invariant-note_phases-loop-phase
invariant-note_phases-loop-phase l =
    Widens l.fn.touches l.touches
    × ((t : List Touch) → Widens l.touches t →
    IsWorkNoted l.layout t (bounds_of l.ranges) (λ vars. phases_work (sequences (map sequence_of (drop l.phase-index l.phase-items))) l.var l.low l.high vars) →
    IsWorkNoted l.layout t (bounds_of l.ranges) (λ vars. phases_work (sequences_of l.phases) l.var l.low l.high vars))
