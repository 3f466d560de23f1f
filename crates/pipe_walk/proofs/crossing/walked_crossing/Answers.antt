use Rattle.std.proofs.Common.{◌<◌, arith, ◌∙◌}
use Rattle.array_tree.specs.Trees.{sequences_of}
use Rattle.array_meaning.specs.Stores.{cells_of}
use Rattle.array_meaning.specs.Sites.{phase_rounds}
use Rattle.array_eval.specs.Views.{vars_of}
use Rattle.phase_order.specs.Tests.{crosses}
use Rattle.pipe_walk.specs.Inside.Tables.{past_in}
use Rattle.pipe_walk.proofs.PhaseLemmas.{same_cells}
use Rattle.pipe_walk.proofs.crossing.walked_crossing.Goals as goal

pub returns-clause-found : goal.returns-clause-found
returns-clause-found c =
    let arrays = c.args.layout.now in
    let cells = cells_of arrays in
    let vars = vars_of c.args.scope.now in
    let phases = sequences_of c.args.phases.now in
    let var = c.args.turns.var.now in
    let low = c.args.turns.low in
    let high = c.args.turns.high in
    let members = c.args.members in
    c.least_crossed.ensures
    ∙ same_cells (λ cell. (past_in c.walk_phases.new.table.past cell).crossed) (λ cell. crosses arrays cell 0 0 (phase_rounds phases var low high members vars)) 0 cells
    (λ cell small. c.walk_phases.ensures.crossed cell (let h : cell < cells = omega arith in h))
