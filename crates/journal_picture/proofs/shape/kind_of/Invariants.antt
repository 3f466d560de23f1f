use Rattle.std.proofs.Common.{◌≡◌, ◌++◌, ◌-◌, replicate, take}
use Rattle.journal_picture.proofs.shape.kind_of.Given as goal

-- The letters so far, with zeros behind them.
abbrev pub invariant-loop-i : goal.invariant-loop-i
invariant-loop-i l = l.letters ≡ take l.i l.bytes ++ replicate (15 - l.i) 0
