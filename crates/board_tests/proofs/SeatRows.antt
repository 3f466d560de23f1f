-- All seats of a board, in a row.
use Rattle.std.proofs.Common.{◌≡◌, ◌∙◌, ℕ, zero, suc, ◌+◌, ◌-◌, ◌<◌, List, [], ◌∷◌, ◌++◌, length, slice_index_or, arith}
use Rattle.std.proofs.lemmas.List.{length-append}
use Rattle.board_rule.specs.declared.layout.Laid.{Ghosts}
use Rattle.lent_board.specs.declared.seat.HartSeat.{HartSeat}
use Rattle.lent_board.specs.declared.board.Board.{Board}
use Rattle.lent_board.specs.Seats.{AreAll}
use Rattle.board_tests.specs.Harts.{IsHartOf, AreBetween}

module _ {L : Type 0} {laid : Ghosts L} (b : Board L laid) (last : HartSeat) where
  at : {n m : ℕ} (q : HartSeat) → n ≡ m → IsHartOf b n q → IsHartOf b m q
  at q same is = record { of = is.of; hart = is.hart ∙ same }

  -- The seats of the harts from n on, and the seat of the next one.
  rows : (n : ℕ) (qs : List HartSeat) → ((i : ℕ) (d : HartSeat) → i < length qs → IsHartOf b (i + n) (slice_index_or qs i d))
      → IsHartOf b (length qs + n) last → (i : ℕ) (d : HartSeat) → i < length (qs ++ last ∷ []) → IsHartOf b (i + n) (slice_index_or (qs ++ last ∷ []) i d)
  rows n [] all end zero d lt = at last (omega arith) end
  rows n [] all end (suc i) d lt = absurd (omega (arith, lt))
  rows n (q ∷ qs) all end zero d lt = all 0 d (omega arith)
  rows n (q ∷ qs) all end (suc i) d lt = at (slice_index_or (qs ++ last ∷ []) i d) (omega arith)
      (rows (suc n) qs (λ j e less. at (slice_index_or qs j e) (omega arith) (all (suc j) e (omega (arith, less)))) (at last (omega arith) end) i d (omega (arith, lt)))

  -- The first seat, those between, and the last one are all seats of the board, in order.
  pub are_all : (first : HartSeat) (between : List HartSeat) → length between + 2 ≡ b.plan.harts → IsHartOf b 0 first
      → IsHartOf b (b.plan.harts - 1) last → AreBetween b between → AreAll b.table.shared.table_id b.plan (first ∷ (between ++ last ∷ []))
  are_all first between count is_first is_last are_between = record {
    count = omega (arith, length-append between (last ∷ []), count);
    boards = λ h d lt. (each h d lt).of.board;
    plans = λ h d lt. (each h d lt).of.plan;
    harts = λ h d lt. (each h d lt).hart;
  }
    where
      each : (h : ℕ) (d : HartSeat) → h < length (first ∷ (between ++ last ∷ [])) → IsHartOf b h (slice_index_or (first ∷ (between ++ last ∷ [])) h d)
      each zero d lt = is_first
      each (suc i) d lt = at (slice_index_or (between ++ last ∷ []) i d) (omega arith)
          (rows 1 between are_between (at last (omega (arith, count)) is_last) i d (omega (arith, lt)))
