use Rattle.task_loops.proofs.Ranges.{zip_ranges}
use Rattle.task_nested.specs.Rows.{IsSummary}
use Rattle.task_nested.proofs.rows.RowsFold.join.Goals as goal

pub returns-clause-output : goal.returns-clause-output
returns-clause-output c = λ low middle high h k f b.
    zip_ranges IsSummary c.args.self.now.rows.now c.args.front.items c.args.back.items c.append.new.self.items low middle high h k c.in_ok-append.ensures.items f b
