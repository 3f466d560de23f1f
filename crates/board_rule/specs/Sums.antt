-- Sums over seats, and the terms of one seat.
use Rattle.std.specs.Prelude.{ℕ, ◌+◌, ◌==◌, Bool, true, false, List, [], ◌∷◌, Option, Some, None}
use Rattle.transfer_table.specs.Counts.{one_if}
use Rattle.board_rule.specs.declared.entries.Drawn.{Drawn}
use Rattle.board_rule.specs.declared.entries.Ended.{Ended}

-- The sum of f over a list.
abbrev pub total : {V : Type 0} → (V → ℕ) → List V → ℕ
total f [] = 0
total f (v ∷ vs) = f v + total f vs

-- 1 if the seat has reserved index i and hasn't written its entry; else 0.
abbrev pub draws_in : Option Drawn → ℕ → ℕ
draws_in None i = 0
draws_in (Some d) i = one_if (d.place == i)

-- 1 if the hart is the one that was joined into hart 0's seat; else 0.
abbrev pub ended_as : ℕ → Ended → ℕ
ended_as h e = one_if (e.hart == h)
