use Rattle.pipe_sched.proofs.Merges.{merged_phase}
use Rattle.pipe_sched.proofs.merging.merge_phases.Goals as goal

pub loop-phase-preserved : goal.loop-phase-preserved
loop-phase-preserved c =
    merged_phase c.args.phases c.args.slots.now c.args.members c.loop-phase.phase c.loop-phase.store c.merge_phase.new.store c.args.store.now
    c.merge_phase.ensures c.loop-phase.invariant
