use Rattle.std.proofs.Common.{◌≡◌, ◌+◌, ◌++◌, map, length, reverse, vec_len}
use Rattle.deque_rows.specs.Rows as deques
use Rattle.claim_words.specs.Seats as claim_seats
use Rattle.hart_loop.proofs.crew.crew.Given as goal

-- The remaining hart-local states are those of the remaining harts.
abbrev pub invariant-loop-port : goal.invariant-loop-port
invariant-loop-port g l = record {
  ports : map (λ hart. hart.port) l.harts.items ≡ l.yielded;
  rows : map (λ hart. hart.sites.hart_local.rows) l.harts.items ++ map (λ t. t.rows) (reverse l.hart_local.items) ≡ map deques.identity l.fn.crew_parts.rows.items;
  seats : map (λ hart. hart.sites.hart_local.seat) l.harts.items ++ map (λ t. t.seat) (reverse l.hart_local.items) ≡ map claim_seats.identity l.fn.crew_parts.seats.items;
  count : length l.yielded + vec_len l.hart_local ≡ vec_len l.fn.crew_parts.ports;
}
