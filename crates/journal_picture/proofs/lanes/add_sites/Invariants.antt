use Rattle.std.proofs.Common.{◌≡◌, ◌++◌, ◌-◌, replicate}
use Rattle.journal_picture.proofs.lanes.add_sites.Given as goal

-- The sites so far, and those to be added.
abbrev pub invariant-loop-i : goal.invariant-loop-i
invariant-loop-i l = l.sites.items ++ replicate (l.count - l._i) l.site ≡ l.fn.sites.items ++ replicate l.count l.site
