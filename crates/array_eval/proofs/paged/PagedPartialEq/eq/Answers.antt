use Rattle.std.specs.Bool.{one_answer}
use Rattle.array_eval.specs.Equal.{store_eq}
use Rattle.array_eval.specs.EqualLaws.{store_decides}
use Rattle.array_eval.proofs.paged.PagedPartialEq.eq.Goals as goal

pub returns-clause-tested : goal.returns-clause-tested
returns-clause-tested c =
    one_answer c.has_same_cells.result (store_eq c.args.self.now c.args.other.now) c.has_same_cells.ensures (store_decides c.args.self.now c.args.other.now)
