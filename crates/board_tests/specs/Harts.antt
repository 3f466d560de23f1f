-- Seats of a board by their numbers.
use Rattle.std.specs.Prelude.{◌≡◌, ℕ, ◌+◌, ◌<◌, List, [], ◌∷◌, length, slice_index_or}
use Rattle.lent_board.specs.Of.{IsOf}
use Rattle.board_rule.specs.declared.layout.Laid.{Ghosts}
use Rattle.lent_board.specs.declared.seat.HartSeat.{HartSeat}
use Rattle.lent_board.specs.declared.board.Board.{Board}

-- The board's seat of hart h.
pub record IsHartOf {L : Type 0} {laid : Ghosts L} (b : Board L laid) (h : ℕ) (q : HartSeat) : Type 0 where
  pub of : IsOf b q
  pub hart : q.seat.me.0.hart ≡ h

-- The seat at index i is the seat of hart i + 1.
abbrev pub AreBetween : {L : Type 0} {laid : Ghosts L} → Board L laid → List HartSeat → Type 0
AreBetween b qs = (i : ℕ) (d : HartSeat) → i < length qs → IsHartOf b (i + 1) (slice_index_or qs i d)

-- Two harts of a board with one site. Both are in the base.
pub record AreTwo {L : Type 0} {laid : Ghosts L} (b : Board L laid) (q r : HartSeat) : Type 0 where
  pub plan : b.plan ≡ record { harts = 2; parents = 0 ∷ [] }
  pub first : IsOf b q
  pub last : IsOf b r
  pub first_base : q.seat.me.0.owner ≡ 0
  pub last_base : r.seat.me.0.owner ≡ 0
