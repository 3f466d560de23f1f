use Rattle.std.proofs.Common.{◌≡◌, ◌%◌, ◌^◌, take, sum}
use Rattle.task_loops.proofs.sums.sum_of.Given as goal

abbrev pub invariant-numbers : goal.invariant-numbers
invariant-numbers l = l.total ≡ sum (take l.number-index l.numbers) % 2 ^ 64
