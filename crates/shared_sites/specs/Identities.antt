-- What no call changes in a hart-local state.
use Rattle.std.specs.Prelude.{ℕ, List, map}
use Rattle.deque_rows.specs.declared.hart.HartRows.{HartRows}
use Rattle.deque_rows.specs.Rows as rows
use Rattle.claim_words.specs.declared.seat.ClaimSeat.{ClaimSeat}
use Rattle.claim_words.specs.Seats as seats
use Rattle.disjoint_check.specs.Shapes.{Shape}
use Rattle.shared_sites.specs.ClaimRows.{shape_of}
use Rattle.shared_sites.specs.declared.claims.Claims.{Claims}

-- The identities of a hart's deques and of its seat, and the claim counters of the run: the shape of each site, and the members of
-- each counter. No call changes them.
pub record HartLocalIdentities : Type 0 where
  pub rows : rows.Identity
  pub seat : seats.SeatIdentity
  pub shapes : List Shape
  pub counts : List ℕ

-- The identities of deques and of a seat, with the claim counters of the run.
abbrev pub identities_of : HartRows → ClaimSeat → Claims → HartLocalIdentities
identities_of own seat claims = record {
  rows = rows.identity own;
  seat = seats.identity seat;
  shapes = map shape_of claims.sites.items;
  counts = claims.table.counts.items;
}
