use Rattle.std.proofs.Common.{◌≡◌, ◌<◌, ◌++◌, ℕ, map, length, get_or, reverse, vec_len}
use Rattle.deque_rows.specs.declared.hart.HartRows.{HartRows}
use Rattle.deque_rows.specs.Rows as deques
use Rattle.claim_words.specs.Seats as claim_seats
use Rattle.shared_sites.proofs.hart_local.hart_locals_of.Given as goal

-- The remaining loans are unchanged, and the hart-local states have the loans taken so far.
abbrev pub invariant-loop-own : goal.invariant-loop-own
invariant-loop-own l = record {
  rows : map deques.identity l.rows.items ++ map (λ t. t.rows) (reverse l.hart_local.items) ≡ map deques.identity l.fn.rows.items;
  seats : map claim_seats.identity l.seats.items ++ map (λ t. t.seat) (reverse l.hart_local.items) ≡ map claim_seats.identity l.fn.seats.items;
  count : vec_len l.seats ≡ vec_len l.rows;
  reaches : (h : ℕ) (d : HartRows) → h < length l.rows.items → (get_or l.rows.items h d).harts ≡ l.harts;
  of : claim_seats.AreOf l.claims.table (map claim_seats.identity l.seats.items);
}

abbrev pub decreases-loop-own : goal.decreases-loop-own
decreases-loop-own l = vec_len l.rows
