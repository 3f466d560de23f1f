-- A seat of a board.
use Rattle.std.specs.Prelude.{◌≡◌}
use Rattle.atomic_table.specs.Seated.{TableId}
use Rattle.board_rule.specs.declared.layout.Laid.{Ghosts}
use Rattle.board_rule.specs.declared.view.View.{View}
use Rattle.board_rule.specs.Rule.{IsSeat}
use Rattle.lent_board.specs.declared.seat.HartSeat.{HartSeat}
use Rattle.lent_board.specs.declared.board.Board.{Board}

-- The seat belongs to the board's words, and has the board's plan.
pub record IsOf {L : Type 0} {laid : Ghosts L} (b : Board L laid) (q : HartSeat) : Type 0 where
  pub board : q.seat.table_id ≡ b.table.shared.table_id
  pub plan : q.seat.me.0.plan ≡ b.plan

-- The same between the steps of a call, for a seat of the words z with the view v.
pub record IsOn {L : Type 0} {laid : Ghosts L} (b : Board L laid) (z : TableId) (v : View) : Type 0 where
  pub board : z ≡ b.table.shared.table_id
  pub plan : v.plan ≡ b.plan
  pub seat : IsSeat v
