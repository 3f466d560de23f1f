-- The view that a port over the board has of its hart.
use Rattle.std.specs.Prelude.{ℕ, false, List, ◌∷◌}
use Rattle.atomic_table.specs.Seated.{TableId}
use Rattle.hart_port.specs.PortView.{PortView}
use Rattle.board_rule.specs.declared.view.View.{View}
use Rattle.lent_board.specs.declared.seat.HartSeat.{HartSeat}

-- The name of a board's words: numbers that distinguish them from all others.
abbrev pub table_name : TableId → List ℕ
table_name z = z.words ∷ z.slots ∷ z.views_name ∷ z.atom ∷ z.block ∷ z.offset ∷ z.slot_names

-- The port's view of a hart that shares the table of this name.
abbrev pub shared_view : List ℕ → View → PortView
shared_view name v = record {
  plan = v.plan;
  hart = v.hart;
  owner = v.owner;
  mine = v.mine;
  homes = v.marks.homes;
  closed = v.marks.closed;
  empty = v.marks.empty;
  gone = v.marks.gone;
  alone = false;
  table = name;
}

-- The port's view of a seat.
abbrev pub port_view : HartSeat → PortView
port_view q = shared_view (table_name q.seat.table_id) q.seat.me.0
