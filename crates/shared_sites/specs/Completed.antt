-- The handed-out schedulers.
use Rattle.join_book.specs.Books.{IsFull}
use Rattle.loop_team.specs.Teams.{IsOver}
use Rattle.pipe_sched.specs.Slots.{IsFull as IsDone}
use Rattle.shared_sites.specs.declared.completed.Completed.{Completed}
use Rattle.shared_sites.specs.declared.completed.Completed.TheVariants.{Pool, Team, Pipe}

-- Every slot or piece is filled or failed, or the team is done.
abbrev pub IsCompleted : Completed → Type 0
IsCompleted (Pool pool) = IsFull pool.book
IsCompleted (Team team) = IsOver team
IsCompleted (Pipe pipe) = IsDone pipe.state
