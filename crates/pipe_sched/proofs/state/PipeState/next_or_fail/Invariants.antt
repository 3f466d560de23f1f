use Rattle.std.proofs.Common.{ℕ, List}
use Rattle.pipe_sched.specs.Pipes.{FailWhenDue}
use Rattle.pipe_sched.proofs.Failing.{waiting_in}
use Rattle.pipe_sched.proofs.state.PipeState.next_or_fail.Given as goal

abbrev pub invariant-pieces : goal.invariant-pieces
invariant-pieces l = (failed : List (ℕ × ℕ)) × FailWhenDue l.fn.self failed l.self

abbrev pub decreases-pieces : goal.decreases-pieces
decreases-pieces l = waiting_in l.self.marks
