use Rattle.std.proofs.Common.{arith}
use Rattle.array_tree.specs.Trees.{sequence_of}
use Rattle.tally_cells.proofs.Few.{rows_few}
use Rattle.tally_cells.proofs.rows.push_declarations.Goals as goal

pub rows_of-requires-clause-few : goal.rows_of-requires-clause-few
rows_of-requires-clause-few c =
    let few = rows_few c.array-item.result.name (sequence_of c.args.body.now) c.requires.ranges in
    let reported = rw c.in-Some.is at c.in_ok-count.ensures in
    let count = reported.1 in
    omega (arith, few, count)
