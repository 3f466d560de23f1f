use Rattle.std.proofs.Common.{◌≡◌, ◌<◌, All, length, drop}
use Rattle.array_meaning.specs.Stores.{after}
use Rattle.array_eval.proofs.store.put_pairs.Given as goal

abbrev pub invariant-loop-cell : goal.invariant-loop-cell
invariant-loop-cell l = record {
  rest : after (drop l.cell-index l.pairs) l.store ≡ after l.pairs l.fn.store;
  there : All (λ pair. pair.0 < length l.store) l.pairs;
}
