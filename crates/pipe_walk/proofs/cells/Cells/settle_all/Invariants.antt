use Rattle.std.specs.Prelude.{slice_index_or}
use Rattle.pipe_walk.specs.Inside.Members.{joined, touch_in}
use Rattle.pipe_walk.proofs.CellLemmas.{IsSettling}
use Rattle.pipe_walk.proofs.cells.Cells.settle_all.Given as goal

-- The cells below this one have joined their past.
abbrev pub invariant-loop-cell : goal.invariant-loop-cell
invariant-loop-cell l =
    IsSettling l.fn.self l.self (λ cell. joined (touch_in l.fn.self.touches cell) (touch_in l.everywhere (slice_index_or l.owners cell 0))) l.cell
