use Rattle.std.proofs.Common.{◌≡◌, ◌≤◌, ◌++◌, drop, vec_len}
use Rattle.journal_picture.specs.Stays.{stays_of, stays_from}
use Rattle.journal_picture.proofs.stay.stays_of.Given as goal

-- The stays so far, and those from here on; no entry ends two.
abbrev pub invariant-loop-place : goal.invariant-loop-place
invariant-loop-place l =
    (l.stays.items ++ stays_from l.plan l.hart l.site l.first l.place (drop l.place l.list) ≡ stays_of l.plan l.hart l.list)
    × (vec_len l.stays ≤ l.place)
