use Rattle.std.proofs.Common.{ap}
use Rattle.array_jobs.specs.Jobs.{JobParts}
use Rattle.pipe_sched.proofs.Stores.{left_of}
use Rattle.pipe_sched.proofs.slot.Slot.store_left.Goals as goal

pub returns : goal.returns
returns c =
    left_of c.args.self.now c.in-Filled.job c.in-Filled.written c.job.inside.store c.in_ok-store-in-Filled.store c.merge.new.self
    c.in-Filled.is (ap (λ (j : JobParts). j.store) c.job.view_is) c.in_ok-store-in-Filled.ensures c.merge.ensures.noted
