use Rattle.std.proofs.Common.{◌%◌, ◌^◌, ◌∙◌, length, sum, sym, ap}
use Rattle.task_loops.proofs.Ranges.{whole_range}
use Rattle.task_loops.proofs.sums.run_sum.Goals as goal

pub returns-clause-output : goal.returns-clause-output
returns-clause-output g c =
    let w = c.whole-whole in
    let all = whole_range w.result.fold.numbers.now w.result.low w.result.high w.ensures.low (w.ensures.high ∙ ap (λ s. length s.numbers.now) (sym w.ensures.fold)) in
    c.in_ok-total.ensures.output ∙ ap (λ ns. sum ns % 2 ^ 64) (all ∙ ap (λ s. s.numbers.now) w.ensures.fold)
