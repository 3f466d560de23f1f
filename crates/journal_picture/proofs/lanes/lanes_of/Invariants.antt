use Rattle.std.proofs.Common.{◌≡◌, ◌++◌, ◌-◌}
use Rattle.journal_picture.specs.TextPicture.{lanes_of}
use Rattle.journal_picture.proofs.lanes.lanes_of.Given as goal

-- The lanes so far, and those of the other harts.
abbrev pub invariant-loop-hart : goal.invariant-loop-hart
invariant-loop-hart l =
    l.lanes.items ++ lanes_of l.plan l.list l.hart (l.plan.harts - l.hart) ≡ lanes_of l.plan l.list 0 l.plan.harts
