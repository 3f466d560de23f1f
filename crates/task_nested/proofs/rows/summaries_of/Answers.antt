use Rattle.std.proofs.Common.{arith, ◌∙◌}
use Rattle.task_loops.proofs.Ranges.{zip_more}
use Rattle.task_nested.specs.Rows.{IsSummary}
use Rattle.task_nested.proofs.rows.summaries_of.Goals as goal

pub rows-preserved : goal.rows-preserved
rows-preserved g c = record {
  done = zip_more IsSummary c.args.rows.now c.rows.row-index c.rows.summaries.items c.push.new.self.items c.row-item.result c.in_ok-summary.summary (omega arith) c.row-item.is c.rows.invariant.done c.in_ok-summary.ensures.output c.in_ok-push.ensures.items;
  levels = c.summary_of.ensures.levels ∙ c.rows.invariant.levels;
}
