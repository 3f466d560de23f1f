use Rattle.std.proofs.Common.{◌≡◌, length, map, take}
use Rattle.once_cell.specs.Once.{cell_name}
use Rattle.shared_sites.proofs.directory.site_cells.Given as goal

abbrev pub invariant-loop-cell : goal.invariant-loop-cell
invariant-loop-cell g l = record {
  count : length l.views.items ≡ l.cell-index;
  order : map (λ view. view.note.cell) l.views.items ≡ map cell_name (take l.cell-index l.cells);
}
