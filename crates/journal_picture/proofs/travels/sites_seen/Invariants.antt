use Rattle.std.proofs.Common.{◌≡◌, ◌≤◌, ◌-◌, ℕ, false, drop, length, slice_index_or}
use Rattle.std.specs.Prelude.{◌||◌}
use Rattle.journal_picture.specs.Travels.{is_visited}
use Rattle.journal_picture.proofs.travels.sites_seen.Given as goal

-- The marked sites, and those of the stays that are to come.
abbrev pub invariant-loop-stay : goal.invariant-loop-stay
invariant-loop-stay l =
    (length l.seen.items ≡ l.sites)
    × ((s : ℕ) → 1 ≤ s → s ≤ l.sites
    → (slice_index_or l.seen.items (s - 1) false || is_visited (drop l.stay-index l.stays) s) ≡ is_visited l.stays s)
