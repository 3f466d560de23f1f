-- The hart-local states of a run, for its harts.
use Rattle.std.specs.Prelude.{List, map}
use Rattle.deque_rows.specs.declared.hart.HartRows.{HartRows}
use Rattle.deque_rows.specs.Rows as rows
use Rattle.claim_words.specs.declared.seat.ClaimSeat.{ClaimSeat}
use Rattle.claim_words.specs.declared.table.ClaimTable.{ClaimTable}
use Rattle.claim_words.specs.Seats as seats

-- The deques are all deques of one call, and the seats all seats of the table, in the order of the harts.
pub record AreHartLocals (t : ClaimTable) (rs : List HartRows) (ss : List ClaimSeat) : Type 0 where
  pub rows : rows.AreAll (map rows.identity rs)
  pub seats : seats.AreAll t (map seats.identity ss)
