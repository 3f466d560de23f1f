use Rattle.std.proofs.Common.{◌≡◌}
use Rattle.deque_rows.specs.Rows.{identity}
use Rattle.board_tests.proofs.stealing_threads.be_guest.Given as goal

abbrev pub invariant-loop : goal.invariant-loop
invariant-loop g l = identity l.guest ≡ identity l.initial.guest
