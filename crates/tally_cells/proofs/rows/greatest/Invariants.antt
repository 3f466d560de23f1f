use Rattle.std.proofs.Common.{◌≡◌, ◌≤◌, drop}
use Rattle.std.specs.Prelude.{max}
use Rattle.spread_laws.specs.Rows.{greatest}
use Rattle.tally_cells.proofs.rows.greatest.Given as goal

abbrev pub invariant-loop-number : goal.invariant-loop-number
invariant-loop-number l = record {
  rest : max l.greatest (greatest (drop l.number-index l.numbers)) ≡ greatest l.numbers;
  some : 1 ≤ l.greatest;
}
