use Rattle.std.proofs.Common.{◌≡◌, take}
use Rattle.greatest_number.specs.Numbers.{greatest_of}
use Rattle.greatest_number.proofs.greatest.greatest_in.Given as goal

abbrev pub invariant-numbers : goal.invariant-numbers
invariant-numbers l = l.greatest ≡ greatest_of (take l.number-index l.numbers)
