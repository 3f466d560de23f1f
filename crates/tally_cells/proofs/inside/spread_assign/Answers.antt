use Rattle.array_tree.specs.Trees.{expression_of}
use Rattle.tally_cells.proofs.Meant.{narrow_value}
use Rattle.tally_cells.proofs.inside.spread_assign.Goals as goal

pub returns-in-Some-clause-value : goal.returns-in-Some-clause-value
returns-in-Some-clause-value c =
    narrow_value c.add_to_row.result c.args.array.now (expression_of c.args.index.now) (expression_of c.args.value.now) (expression_of c.in-Some.added.now) c.in-Some.ensures c.add_to_row.ensures.index c.add_to_row.ensures.added
