use Rattle.std.proofs.Common.{drop, map}
use Rattle.array_tree.specs.Trees.{sequence_of, sequences, sequences_of}
use Rattle.array_meaning.specs.Sites.{phase_rounds}
use Rattle.array_eval.specs.Views.{vars_of}
use Rattle.pipe_walk.proofs.PhaseLemmas.{IsThrough}
use Rattle.pipe_walk.proofs.crossing.walk_phases.Given as goal

abbrev pub invariant-loop-phase : goal.invariant-loop-phase
invariant-loop-phase l = IsThrough l.layout (phase_rounds (sequences_of l.phases) l.turns.var.now l.turns.low l.turns.high l.members (vars_of l.scope))
    (phase_rounds (sequences (map sequence_of (drop l.phase-index l.phase-items))) l.turns.var.now l.turns.low l.turns.high l.members (vars_of l.scope)) l.table
