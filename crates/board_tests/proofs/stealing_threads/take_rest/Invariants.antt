use Rattle.std.proofs.Common.{◌≡◌, map}
use Rattle.deque_rows.specs.Rows.{identity}
use Rattle.board_tests.proofs.stealing_threads.take_rest.Given as goal

abbrev pub invariant-loop : goal.invariant-loop
invariant-loop g l = map identity l.rows ≡ map identity l.initial.rows
