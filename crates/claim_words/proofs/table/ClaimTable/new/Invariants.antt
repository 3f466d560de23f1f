use Rattle.std.proofs.Common.{◌≡◌, ◌+◌, map, All, vec_len}
use Rattle.claim_words.specs.Claims.{fresh}
use Rattle.claim_words.specs.Seats.{AreOf, IsNew, identity, parts_of}
use Rattle.claim_words.proofs.table.ClaimTable.new.Given as goal

-- Each other seat has one part, and the first seat has the rest.
abbrev pub invariant-loop : goal.invariant-loop
invariant-loop l = (vec_len l.list + 1 ≡ l.counter) × (l.first.seat.table_id ≡ l.table.table.shared.table_id)
    × (l.first.seat.me.0 ≡ fresh l.first.seat.me.0.parts l.table.counts.items) × (l.first.seat.me.0.parts + l.counter ≡ 257)
    × AreOf l.table (map identity l.list.items) × (parts_of (map identity l.list.items) + 1 ≡ l.counter) × All IsNew l.list.items
