use Rattle.std.proofs.Common.{◌≡◌}
use Rattle.array_eval.specs.Traces.{noted_all}
use Rattle.phase_order.specs.Pipes.{concat}
use Rattle.pipe_sched.specs.Inside.{columns}
use Rattle.pipe_sched.proofs.merging.merge_phases.Given as goal

abbrev pub invariant-loop-phase : goal.invariant-loop-phase
invariant-loop-phase l = l.store ≡ noted_all (concat (concat (columns l.phases l.slots l.members l.phase))) l.fn.store
