-- A hart that runs a pipe may move to another thread.
use denote.Param.Send.{IsSend, sendable}
use denote.Param.SendFields.{declared_send}
use denote.Ref.{NamedLft}
use Rattle.pipe_sched.proofs.Crossings.{shared_pipe_sync}
use Rattle.pipe_tests.specs.contracts.threads.Runner as Runner
use Rattle.pipe_tests.proofs.threads.run_by_all.Goals as goal

runner_send : (x p : NamedLft) → IsSend (Runner.the_row x p)
runner_send x p =
    let pipe = shared_pipe_sync p in
    declared_send (Runner.the_type x p) (search sendable depth 20, tt)

pub for_each_mut-requires-send-T : goal.for_each_mut-requires-send-T
for_each_mut-requires-send-T g c κs within = search (runner_send, sendable) depth 20
