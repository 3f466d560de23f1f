use Rattle.std.proofs.Common.{◌≡◌, take}
use Rattle.std.specs.List.{AllZip}
use Rattle.task_nested.specs.Rows.{IsSummary}
use Rattle.task_nested.proofs.rows.summaries_of.Given as goal

abbrev pub invariant-rows : goal.invariant-rows
invariant-rows g l = record {
  done : AllZip IsSummary (take l.row-index l.rows) l.summaries.items;
  levels : g.H.Harts.levels l.harts ≡ g.H.Harts.levels l.fn.harts;
}
