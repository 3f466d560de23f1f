use Rattle.std.proofs.Common.{◌≡◌, drop}
use Rattle.array_eval.specs.Traces.{noted_all}
use Rattle.array_eval.proofs.marked_store.MarkedStore.merge.Given as goal

-- The remaining writes give what all writes give.
abbrev pub invariant-loop-cell : goal.invariant-loop-cell
invariant-loop-cell l = noted_all (drop l.cell-index l.cell-items) l.self ≡ noted_all l.cell-items l.fn.self
