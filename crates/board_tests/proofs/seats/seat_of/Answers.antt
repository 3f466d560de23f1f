use Rattle.std.proofs.Common.{◌∙◌, ap}
use Rattle.lent_board.specs.PortViews.{table_name}
use Rattle.lent_board.specs.declared.seat.HartSeat.{HartSeat}
use Rattle.lent_board.proofs.Names.{same_table}
use Rattle.board_tests.proofs.seats.seat_of.Goals as goal

pub returns-clause-of : goal.returns-clause-of
returns-clause-of g c = record {
  board = same_table _ _ (ap (λ (q : HartSeat). table_name q.seat.table_id) c.into_seat.ensures.seat ∙ c.requires.table);
  plan = ap (λ (q : HartSeat). q.seat.me.0.plan) c.into_seat.ensures.seat ∙ c.requires.plan;
}
