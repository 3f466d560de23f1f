use Rattle.array_eval.specs.Traces.{IsLaidTo}
use Rattle.array_eval.proofs.marked_store.MarkedStore.lay_page.Given as goal

-- The cells so far are laid.
abbrev pub invariant-loop-cell : goal.invariant-loop-cell
invariant-loop-cell l = IsLaidTo l.self.cells l.self.marks l.cell l.overlay
