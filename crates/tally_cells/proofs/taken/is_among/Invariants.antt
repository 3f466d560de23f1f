use Rattle.std.proofs.Common.{◌≡◌, drop}
use Rattle.array_meaning.specs.Names.{is_among}
use Rattle.tally_cells.proofs.taken.is_among.Given as goal

abbrev pub invariant-loop-other : goal.invariant-loop-other
invariant-loop-other l = is_among l.name (drop l.other-index l.names) ≡ is_among l.name l.names
