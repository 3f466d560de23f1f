use Rattle.std.proofs.Common.{◌≡◌, ◌-◌}
use Rattle.array_meaning.specs.Stores.{cells_of}
use Rattle.array_meaning.specs.Overlap.{first_from}
use Rattle.site_walk.specs.Inside.Touched.{clashes}
use Rattle.site_walk.specs.Inside.Marks.{done_at}
use Rattle.site_walk.proofs.round.least_clash.Given as goal

abbrev pub invariant-loop-cell : goal.invariant-loop-cell
invariant-loop-cell l =
    first_from (λ cell. clashes (done_at l.layout l.table cell)) l.cell (cells_of l.layout - l.cell)
    ≡ first_from (λ cell. clashes (done_at l.layout l.table cell)) 0 (cells_of l.layout)
