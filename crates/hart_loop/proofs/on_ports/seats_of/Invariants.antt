use Rattle.std.proofs.Common.{◌≡◌, map}
use Rattle.hart_loop.proofs.on_ports.seats_of.Given as goal

abbrev pub invariant-loop-port : goal.invariant-loop-port
invariant-loop-port g l = l.seats.items ≡ map (λ port. port.port.seat) l.yielded
