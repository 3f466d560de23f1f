use Rattle.std.proofs.Common.{◌+◌, ◌%◌, ◌^◌, refl}
use Rattle.task_loops.proofs.Ranges.{sum_ranges}
use Rattle.task_loops.proofs.sums.SumFold.join.Goals as goal

pub returns-clause-output : goal.returns-clause-output
returns-clause-output c = λ low middle high h k f b.
    sum_ranges c.args.self.now.numbers.now c.args.front c.args.back ((c.args.front + c.args.back) % 2 ^ 64) low middle high (2 ^ 64) h k refl f b
