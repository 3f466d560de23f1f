use Rattle.std.proofs.Common.{◌≡◌, map}
use Rattle.board_tests.proofs.threads.ports_of.Given as goal

-- A port for each seat so far.
abbrev pub invariant-loop-seat : goal.invariant-loop-seat
invariant-loop-seat g l = map (λ port. port.seat) l.ports.items ≡ l.yielded
