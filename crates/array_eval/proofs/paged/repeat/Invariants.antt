use Rattle.std.proofs.Common.{◌≡◌, replicate}
use Rattle.array_eval.proofs.paged.repeat.Given as goal

abbrev pub invariant-loop : goal.invariant-loop
invariant-loop l = l.pages.items ≡ replicate l.counter l.fn.page
