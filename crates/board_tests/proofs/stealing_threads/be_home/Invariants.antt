use Rattle.std.proofs.Common.{◌≡◌}
use Rattle.deque_rows.specs.Rows.{identity}
use Rattle.board_tests.proofs.stealing_threads.be_home.Given as goal

abbrev pub invariant-loop-code : goal.invariant-loop-code
invariant-loop-code l = identity l.home ≡ identity l.initial.home
