use Rattle.std.proofs.Common.{◌≡◌, ◌-◌}
use Rattle.array_meaning.specs.Stores.{cells_of}
use Rattle.array_meaning.specs.Overlap.{first_from}
use Rattle.pipe_walk.specs.Inside.Tables.{past_in}
use Rattle.pipe_walk.proofs.crossing.least_crossed.Given as goal

abbrev pub invariant-loop-cell : goal.invariant-loop-cell
invariant-loop-cell l =
    first_from (λ cell. (past_in l.table.past cell).crossed) l.cell (cells_of l.layout - l.cell)
    ≡ first_from (λ cell. (past_in l.table.past cell).crossed) 0 (cells_of l.layout)
