use Rattle.std.proofs.Common.{◌≡◌, subst}
use Rattle.std.specs.Result.{IfOk}
use Rattle.step_eval.specs.Nests.{nested_of, nested_writes}
use Rattle.pipe_sched.specs.Pipes.{IsUncrossed}
use Rattle.pipe_sched.specs.Schedulers.{SchedulerParts}
use Rattle.pipe_sched.proofs.pipe.Pipe.take_all.Goals as goal

pub returns-clause-written : goal.returns-clause-written
returns-clause-written c =
    subst (λ (p : SchedulerParts). IfOk c.take_all.result
    (λ overlay. IsUncrossed (nested_of p.state.nested) → overlay.pairs ≡ nested_writes (nested_of p.state.nested))) c.self.view_is c.take_all.ensures.written
