use Rattle.step_eval.specs.Nests.{nested_of}
use Rattle.step_eval.specs.Inside.Computed.{HasReached}
use Rattle.step_eval.proofs.computing.compute.Given as goal

-- The phases before this one are done.
abbrev pub invariant-loop-phase : goal.invariant-loop-phase
invariant-loop-phase l = HasReached (nested_of l.nested) l.phase l.store
