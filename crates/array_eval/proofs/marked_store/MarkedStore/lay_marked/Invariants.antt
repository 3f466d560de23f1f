use Rattle.std.proofs.Common.{◌*◌}
use Rattle.array_eval.specs.Traces.{IsLaidTo}
use Rattle.array_eval.proofs.marked_store.MarkedStore.lay_marked.Given as goal

-- The pages so far are laid.
abbrev pub invariant-loop-number : goal.invariant-loop-number
invariant-loop-number l = IsLaidTo l.self.cells l.self.marks (64 * l.number) l.overlay
