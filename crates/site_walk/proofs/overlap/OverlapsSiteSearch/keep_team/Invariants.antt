use Rattle.std.proofs.Common.{◌≡◌, drop, map}
use Rattle.array_tree.specs.Trees.{sequence_of, sequences, sequences_of}
use Rattle.array_meaning.specs.Sites.{phase_rounds}
use Rattle.array_eval.specs.Views.{vars_of}
use Rattle.std.specs.Option.{option_or}
use Rattle.site_walk.specs.FirstOverlap.{rounds_fault}
use Rattle.site_walk.specs.Inside.Marks.{HasPlaces}
use Rattle.site_walk.proofs.overlap.OverlapsSiteSearch.keep_team.Given as goal

abbrev pub invariant-loop-phase : goal.invariant-loop-phase
invariant-loop-phase l = record {
  places : HasPlaces l.layout l.self.table;
  found : option_or l.self.found (rounds_fault l.layout l.line (phase_rounds (sequences (map sequence_of (drop l.phase-index l.phase-items))) l.turns.var.now l.turns.low l.turns.high l.members (vars_of l.scope)))
      ≡ option_or l.fn.self.found (rounds_fault l.layout l.line (phase_rounds (sequences_of l.phases) l.turns.var.now l.turns.low l.turns.high l.members (vars_of l.scope)));
}
