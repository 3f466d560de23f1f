-- A team may move between threads, and may be shared behind its lock. A search through all parts at once exceeds the
-- prover's step limit, so each part is proved separately.
use denote.Param.Send.{IsSend, IsSync, sendable}
use denote.Ref.{NamedLft}
use Rattle.std.proofs.Crossing.{crosses}
use Rattle.array_tree.proofs.tree.Expr.TheLaws.TheKnot as ExprKnot
use Rattle.array_tree.proofs.tree.Stmt.TheLaws.TheKnot as StmtKnot
use Rattle.array_jobs.specs.contracts.job.Job as Job
use Rattle.contexts.specs.contracts.context.Paused as Paused
use Rattle.step_eval.specs.contracts.machine.StepMachine as StepMachine
use Rattle.step_eval.specs.contracts.nested.Nested as Nested
use Rattle.sched_api.specs.contracts.agenda.Agenda as Agenda
use Rattle.join_book.specs.contracts.book.Book as Book
use Rattle.lithe_barrier.specs.contracts.state.BarrierState as BarrierState
use Rattle.step_eval.specs.contracts.work.Work as Work
use Rattle.loop_team.specs.contracts.team.Team as Team
use Rattle.loop_team.specs.contracts.shared.SharedTeam as SharedTeam

module _ (l : NamedLft) where
  pub job_send : IsSend (Job.the_row l)
  job_send = search (crosses, ExprKnot.crosses, StmtKnot.crosses, sendable) depth 60 fits 20000

  nested_send : IsSend (Nested.the_row l)
  nested_send = search (crosses, ExprKnot.crosses, StmtKnot.crosses, sendable) depth 60 fits 20000

  nested_sync : IsSync (Nested.the_row l)
  nested_sync = search (crosses, ExprKnot.crosses, StmtKnot.crosses, sendable) depth 60 fits 20000

  machine_send : IsSend (StepMachine.the_row l)
  machine_send = search (crosses, ExprKnot.crosses, StmtKnot.crosses, sendable) depth 60 fits 20000

  pub paused_send : IsSend (Paused.the_row (StepMachine.the_row l))
  paused_send = let machine = machine_send in search (crosses, sendable) depth 60 fits 20000

  pub book_send : IsSend (Book.the_row l)
  book_send = let job = job_send in search (crosses, sendable) depth 60 fits 20000

  barrier_send : IsSend (BarrierState.the_row l)
  barrier_send = let book = book_send in search (crosses, sendable) depth 60 fits 20000

  team_work_send : IsSend (Work.the_row l)
  team_work_send = let job = job_send in let paused = paused_send in search (crosses, sendable) depth 60 fits 20000

  team_agenda_send : IsSend (Agenda.the_row (Work.the_row l))
  team_agenda_send = let work = team_work_send in search (crosses, sendable) depth 60 fits 20000

  team_send : IsSend (Team.the_row l)
  team_send = let nested = nested_send in let agenda = team_agenda_send in let barrier = barrier_send in search (crosses, sendable) depth 60 fits 20000

  pub shared_team_send : IsSend (SharedTeam.the_row l)
  shared_team_send = let team = team_send in let nested = nested_send in let job = job_send in search (crosses, sendable) depth 60 fits 20000

  pub shared_team_sync : IsSync (SharedTeam.the_row l)
  shared_team_sync = let team = team_send in let nested = nested_sync in let job = job_send in search (crosses, sendable) depth 60 fits 20000
