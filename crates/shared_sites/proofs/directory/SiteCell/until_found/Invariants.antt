use Rattle.std.proofs.Common.{◌≡◌}
use Rattle.shared_sites.proofs.directory.SiteCell.until_found.Given as goal

-- A look that finds nothing leaves the view unchanged.
abbrev pub invariant-looks : goal.invariant-looks
invariant-looks g l = record {
  next : (goal.iterator-looks g).can_next l.iterator';
  finite : (goal.iterator-looks g).is_finite l.iterator';
  cell : l.self.note.cell ≡ l.fn.self.note.cell;
  same : l.self.note.known ≡ l.fn.self.note.known;
}
