use Rattle.std.proofs.Common.{◌≡◌, ◌≤◌}
use Rattle.journal_picture.specs.Travels.{seen_up_to}
use Rattle.journal_picture.proofs.travels.seen_count.Given as goal

-- The marked sites so far.
abbrev pub invariant-loop-i : goal.invariant-loop-i
invariant-loop-i l = (l.count ≡ seen_up_to l.seen l.i) × (l.count ≤ l.i)
