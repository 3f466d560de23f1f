-- A pipe may move between threads, and may be shared behind its lock. A search through all parts at once exceeds the
-- prover's step limit, so each part is proved separately.
use denote.Param.Send.{IsSend, IsSync, sendable}
use denote.Ref.{NamedLft}
use Rattle.std.proofs.Crossing.{crosses}
use Rattle.array_tree.proofs.tree.Expr.TheLaws.TheKnot as ExprKnot
use Rattle.array_tree.proofs.tree.Stmt.TheLaws.TheKnot as StmtKnot
use Rattle.array_jobs.specs.contracts.job.Job as Job
use Rattle.contexts.specs.contracts.context.Paused as Paused
use Rattle.step_eval.specs.contracts.machine.StepMachine as StepMachine
use Rattle.step_eval.specs.contracts.nested.Nested as Nested
use Rattle.sched_api.specs.contracts.agenda.Agenda as Agenda
use Rattle.pipe_sched.specs.contracts.slot.Slot as Slot
use Rattle.pipe_sched.specs.contracts.state.PipeState as PipeState
use Rattle.step_eval.specs.contracts.work.Work as Work
use Rattle.pipe_sched.specs.contracts.pipe.Pipe as Pipe
use Rattle.pipe_sched.specs.contracts.shared.SharedPipe as SharedPipe

module _ (l : NamedLft) where
  job_send : IsSend (Job.the_row l)
  job_send = search (crosses, ExprKnot.crosses, StmtKnot.crosses, sendable) depth 60 fits 20000

  nested_send : IsSend (Nested.the_row l)
  nested_send = search (crosses, ExprKnot.crosses, StmtKnot.crosses, sendable) depth 60 fits 20000

  nested_sync : IsSync (Nested.the_row l)
  nested_sync = search (crosses, ExprKnot.crosses, StmtKnot.crosses, sendable) depth 60 fits 20000

  machine_send : IsSend (StepMachine.the_row l)
  machine_send = search (crosses, ExprKnot.crosses, StmtKnot.crosses, sendable) depth 60 fits 20000

  paused_send : IsSend (Paused.the_row (StepMachine.the_row l))
  paused_send = let machine = machine_send in search (crosses, sendable) depth 60 fits 20000

  slot_send : IsSend (Slot.the_row l)
  slot_send = let job = job_send in search (crosses, sendable) depth 60 fits 20000

  state_send : IsSend (PipeState.the_row l)
  state_send = let nested = nested_send in let slot = slot_send in search (crosses, sendable) depth 60 fits 20000

  work_send : IsSend (Work.the_row l)
  work_send = let job = job_send in let paused = paused_send in search (crosses, sendable) depth 60 fits 20000

  agenda_send : IsSend (Agenda.the_row (Work.the_row l))
  agenda_send = let work = work_send in search (crosses, sendable) depth 60 fits 20000

  pipe_send : IsSend (Pipe.the_row l)
  pipe_send = let state = state_send in let agenda = agenda_send in search (crosses, sendable) depth 60 fits 20000

  pub shared_pipe_send : IsSend (SharedPipe.the_row l)
  shared_pipe_send = let pipe = pipe_send in let nested = nested_send in search (crosses, sendable) depth 60 fits 20000

  pub shared_pipe_sync : IsSync (SharedPipe.the_row l)
  shared_pipe_sync = let pipe = pipe_send in let nested = nested_sync in search (crosses, sendable) depth 60 fits 20000
