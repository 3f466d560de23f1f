use Rattle.std.proofs.Common.{◌≡◌, ◌++◌, ◌-◌, length}
use Rattle.journal_picture.specs.Travels.{travels_from, travels_of}
use Rattle.journal_picture.proofs.travels.travels_of.Given as goal

-- The numbers so far, and those of the other harts.
abbrev pub invariant-loop-hart : goal.invariant-loop-hart
invariant-loop-hart l =
    (l.travels.items ++ travels_from l.plan l.list l.hart (l.plan.harts - l.hart) ≡ travels_of l.plan l.list)
    × (length l.travels.items ≡ l.hart)
