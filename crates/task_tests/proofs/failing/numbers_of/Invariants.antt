use Rattle.std.proofs.Common.{◌≡◌, All, false}
use Rattle.task_tests.proofs.failing.numbers_of.Given as goal

abbrev pub invariant-numbers : goal.invariant-numbers
invariant-numbers l = All (λ count. count.leads ≡ false) l.numbers.items
