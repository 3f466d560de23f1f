use Rattle.std.proofs.Common.{◌≡◌, map}
use Rattle.hart_loop.proofs.on_ports.ports_of.Given as goal

abbrev pub invariant-loop-seat : goal.invariant-loop-seat
invariant-loop-seat g l = map (λ port. port.port.seat) l.ports.items ≡ l.yielded
