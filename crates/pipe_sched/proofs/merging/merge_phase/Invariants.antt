use Rattle.std.proofs.Common.{◌≡◌}
use Rattle.array_eval.specs.Traces.{noted_all}
use Rattle.phase_order.specs.Pipes.{concat}
use Rattle.pipe_sched.specs.Inside.{column}
use Rattle.pipe_sched.proofs.merging.merge_phase.Given as goal

abbrev pub invariant-loop-member : goal.invariant-loop-member
invariant-loop-member l = l.store ≡ noted_all (concat (column l.phases l.slots l.phase l.member)) l.fn.store
