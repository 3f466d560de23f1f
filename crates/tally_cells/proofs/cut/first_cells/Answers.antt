use Rattle.std.proofs.Common.{arith}
use Rattle.std.proofs.lemmas.Grind.{common_steps}
use Rattle.tally_cells.proofs.FirstCells.{next_cell}
use Rattle.tally_cells.proofs.cut.first_cells.Goals as goal

pub loop-cell-preserved : goal.loop-cell-preserved
loop-cell-preserved c =
    let inside = c.requires in
    let below = c.loop-cell-test.true in
    let next = next_cell c.args.store.now c.loop-cell.cell c.args.cells below (omega (arith, inside, below)) in
    grind (arith, common_steps, next, c.loop-cell.invariant, c.in_ok-put.ensures.written, c.get.ensures)
