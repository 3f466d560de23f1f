use Rattle.std.proofs.Common.{arith}
use Rattle.array_tasks.proofs.Merged.{merged_more}
use Rattle.array_tasks.proofs.constructs.merge_all.Goals as goal

pub outputs-preserved : goal.outputs-preserved
outputs-preserved c =
    merged_more c.args.outputs.now c.outputs.written-index c.written-item.result c.outputs.store c.merge.new.self _ (omega arith) c.written-item.is c.merge.ensures.noted c.outputs.invariant
