use Rattle.std.proofs.Common.{◌≡◌, ◌+◌, ◌-◌}
use Rattle.journal_picture.specs.TextPicture.{steps_up, depth_of}
use Rattle.journal_picture.proofs.tree.depth_of.Given as goal

-- The steps so far, and those that are left.
abbrev pub invariant-loop-i : goal.invariant-loop-i
invariant-loop-i l = (l.depth ≡ l._i) × (l.depth + steps_up l.plan (l.site - l._i) l.at ≡ depth_of l.plan l.site)
