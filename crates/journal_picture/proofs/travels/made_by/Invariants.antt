use Rattle.std.proofs.Common.{◌≡◌, ◌≤◌, ◌+◌, drop, length}
use Rattle.transfer_table.specs.Entry.{made_by}
use Rattle.journal_picture.proofs.travels.made_by.Given as goal

-- The entries so far, and those that are to come.
abbrev pub invariant-loop-entry : goal.invariant-loop-entry
invariant-loop-entry l =
    (l.made + length (made_by l.hart (drop l.entry-index l.list)) ≡ length (made_by l.hart l.list))
    × (l.made ≤ l.entry-index)
