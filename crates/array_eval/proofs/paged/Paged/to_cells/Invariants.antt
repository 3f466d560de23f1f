use Rattle.std.proofs.Common.{◌≡◌, take}
use Rattle.array_eval.specs.Pages.{cells_on}
use Rattle.array_eval.proofs.paged.Paged.to_cells.Given as goal

abbrev pub invariant-loop-page : goal.invariant-loop-page
invariant-loop-page l = l.cells.items ≡ cells_on (take l.page-index l.page-items)
