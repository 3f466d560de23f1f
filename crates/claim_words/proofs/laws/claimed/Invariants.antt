use Rattle.std.proofs.Common.{◌≡◌, ◌<◌, ◌+◌, ℕ, List, [], map, vec_len}
use Rattle.claim_words.specs.Claims.{claims, weigh, past_word}
use Rattle.claim_words.specs.Seats.{AreOf, parts_of, claims_of, reads_past, identity}
use Rattle.claim_words.proofs.laws.claimed.Given as goal

-- The earlier seats are joined into the first one.
abbrev pub invariant-loop-other : goal.invariant-loop-other
invariant-loop-other l = (l.first.table_id ≡ l.table.shared.table_id) × (l.first.me.1 ≡ []) × (0 < l.first.me.0.parts)
    × (l.first.me.0.parts + parts_of (map identity l.seats.items) ≡ 256)
    × ((r m : ℕ) → claims r m l.first.me.0 + claims_of r m l.seats.items ≡ claims_of r m l.fn.seats.items)
    × AreOf l.fn.table (map identity l.seats.items)
    × ((ws : List ℕ) → weigh (past_word ws) l.first.me.0.looks + reads_past ws l.seats.items ≡ reads_past ws l.fn.seats.items)

abbrev pub decreases-loop-other : goal.decreases-loop-other
decreases-loop-other l = vec_len l.seats
