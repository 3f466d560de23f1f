-- The schedulers of sites may move between threads, and may be shared. A search through all parts at once exceeds the
-- prover's step limit, so each part is proved separately.
use denote.Param.Send.{IsSend, IsSync, sendable}
use denote.Ref.{NamedLft}
use Rattle.std.proofs.Crossing.{crosses}
use Rattle.array_tree.proofs.tree.Expr.TheLaws.TheKnot as ExprKnot
use Rattle.array_tree.proofs.tree.Stmt.TheLaws.TheKnot as StmtKnot
use Rattle.array_jobs.specs.contracts.job.Job as Job
use Rattle.sched_api.specs.contracts.agenda.Agenda as Agenda
use Rattle.step_eval.specs.contracts.work.Work as Work
use Rattle.forkjoin_sched.specs.contracts.pool.Pool as Pool
use Rattle.forkjoin_sched.specs.contracts.shared.SharedPool as SharedPool
use Rattle.loop_team.proofs.Crossings.{job_send, paused_send, book_send, shared_team_send, shared_team_sync}
use Rattle.pipe_sched.proofs.Crossings.{shared_pipe_send, shared_pipe_sync}
use Rattle.once_cell.specs.contracts.race.once_box.OnceBox as OnceBox
use Rattle.once_cell.specs.contracts.race.note.Note as Note
use Rattle.once_cell.proofs.race.once_box.OnceBox.TheSendSync as OnceBoxCrosses
use Rattle.once_cell.proofs.race.note.Note.TheSendSync as NoteCrosses
use Rattle.shared_sites.specs.contracts.shared_site.SharedSite as SharedSite
use Rattle.shared_sites.specs.contracts.directory.SiteCell as SiteCell

module _ (l : NamedLft) where
  job_sync : IsSync (Job.the_row l)
  job_sync = search (crosses, ExprKnot.crosses, StmtKnot.crosses, sendable) depth 60 fits 20000

  pool_work_send : IsSend (Work.the_row l)
  pool_work_send = let job = job_send l in let paused = paused_send l in search (crosses, sendable) depth 60 fits 20000

  pool_agenda_send : IsSend (Agenda.the_row (Work.the_row l))
  pool_agenda_send = let work = pool_work_send in search (crosses, sendable) depth 60 fits 20000

  pool_send : IsSend (Pool.the_row l)
  pool_send = let agenda = pool_agenda_send in let book = book_send l in search (crosses, sendable) depth 60 fits 20000

  shared_pool_send : IsSend (SharedPool.the_row l)
  shared_pool_send = let pool = pool_send in let job = job_send l in search (crosses, sendable) depth 60 fits 20000

  shared_pool_sync : IsSync (SharedPool.the_row l)
  shared_pool_sync = let pool = pool_send in let job = job_send l in let jobs = job_sync in search (crosses, sendable) depth 60 fits 20000

  pub shared_site_send : IsSend (SharedSite.the_row l)
  shared_site_send = let pool = shared_pool_send in let team = shared_team_send l in let pipe = shared_pipe_send l in search (crosses, sendable) depth 60 fits 20000

  pub shared_site_sync : IsSync (SharedSite.the_row l)
  shared_site_sync = let pool = shared_pool_sync in let team = shared_team_sync l in let pipe = shared_pipe_sync l in search (crosses, sendable) depth 60 fits 20000

-- A view of a cell moves between threads with what the cell shares.
pub view_send : (a p : NamedLft) → IsSend (SiteCell.the_row a (SharedSite.the_row p))
view_send a p =
    let sent = shared_site_send p in
    let shared = shared_site_sync p in
    let cell : IsSync (OnceBox.the_row (SharedSite.the_row p)) = OnceBoxCrosses.the_sync (SharedSite.the_row p) sent shared in
    let note : IsSend (Note.the_row (SharedSite.the_row p)) = NoteCrosses.the_send (SharedSite.the_row p) in
    search (crosses, sendable) depth 60 fits 20000
