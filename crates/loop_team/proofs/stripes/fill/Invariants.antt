use Rattle.std.proofs.Common.{◌≡◌, length}
use Rattle.loop_team.specs.Stripes.{AreSeatsOf}
use Rattle.loop_team.proofs.stripes.fill.Given as goal

abbrev pub invariant-loop-row : goal.invariant-loop-row
invariant-loop-row l = record {
  rows : length l.seats.items ≡ l.row;
  are : AreSeatsOf l.team l.number l.seats.items;
}
