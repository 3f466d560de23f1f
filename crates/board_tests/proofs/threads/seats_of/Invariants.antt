use Rattle.std.proofs.Common.{◌≡◌, map}
use Rattle.board_tests.proofs.threads.seats_of.Given as goal

-- The seats of the ports so far.
abbrev pub invariant-loop-port : goal.invariant-loop-port
invariant-loop-port g l = l.seats.items ≡ map (λ port. port.seat) l.yielded
