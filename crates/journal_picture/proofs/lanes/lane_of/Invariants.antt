use Rattle.std.proofs.Common.{◌≡◌, ◌++◌, drop}
use Rattle.journal_picture.specs.TextPicture.{sites_of}
use Rattle.journal_picture.proofs.lanes.lane_of.Given as goal

-- The sites so far, and those of the other stays.
abbrev pub invariant-loop-stay : goal.invariant-loop-stay
invariant-loop-stay l = l.sites.items ++ sites_of l.end (drop l.stay-index l.stays) ≡ sites_of l.end l.stays
