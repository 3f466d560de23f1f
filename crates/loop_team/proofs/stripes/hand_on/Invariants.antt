use Rattle.std.proofs.Common.{◌≡◌, ◌<◌, ℕ, IsTrue}
use Rattle.loop_team.specs.Stripes.{StartsFrom, HasPiece}
use Rattle.loop_team.proofs.stripes.hand_on.Given as goal

abbrev pub invariant-loop-row : goal.invariant-loop-row
invariant-loop-row l = record {
  known : IsTrue l.known → StartsFrom l.team l.stripe.start;
  none : (k : ℕ) → k < l.row → HasPiece l.stripe k → ⊥;
  nested : l.team.nested ≡ l.fn.team.nested;
  opened : l.team.opened ≡ l.fn.team.opened;
}
