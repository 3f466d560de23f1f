use Rattle.std.proofs.Common.{◌≡◌, map}
use Rattle.deque_rows.specs.Rows as deques
use Rattle.claim_words.specs.Seats as claim_seats
use Rattle.hart_loop.proofs.crew.crew_parts_of.Given as goal

abbrev pub invariant-loop-hart : goal.invariant-loop-hart
invariant-loop-hart g l = record {
  ports : l.crew_parts.ports.items ≡ map (λ hart. hart.port) l.yielded;
  rows : map deques.identity l.crew_parts.rows.items ≡ map (λ hart. hart.sites.hart_local.rows) l.yielded;
  seats : map claim_seats.identity l.crew_parts.seats.items ≡ map (λ hart. hart.sites.hart_local.seat) l.yielded;
}
