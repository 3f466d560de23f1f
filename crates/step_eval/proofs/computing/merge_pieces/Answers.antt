use Rattle.std.proofs.Common.{arith}
use Rattle.step_eval.proofs.ComputeLemmas.{merged_next}
use Rattle.step_eval.proofs.computing.merge_pieces.Goals as goal

pub loop-job-preserved : goal.loop-job-preserved
loop-job-preserved c =
    merged_next c.args.jobs.now c.loop-job.job-index c.job-item.result c.in_ok-written_by.field-0.pairs c.loop-job.store c.merge-in-loop-job.new.self _
    (omega arith) c.job-item.is c.in_ok-written_by.ensures c.merge-in-loop-job.ensures.noted c.loop-job.invariant
