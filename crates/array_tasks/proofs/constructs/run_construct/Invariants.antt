use Rattle.std.proofs.Common.{◌≡◌}
use Rattle.step_eval.specs.Nests.{nested_of}
use Rattle.step_eval.specs.Inside.Computed.{HasReached}
use Rattle.array_tasks.proofs.constructs.run_construct.Given as goal

-- The phases before this one are done, and the levels stay.
abbrev pub invariant-phases : goal.invariant-phases
invariant-phases g l = record {
  reached : HasReached (nested_of l.nested) l.phase l.store;
  levels : g.H.Harts.levels l.harts ≡ g.H.Harts.levels l.fn.harts;
}
