use Rattle.std.proofs.Common.{◌-◌, ◌≤◌, length}
use Rattle.array_meaning.specs.Pieces.{IsRising}
use Rattle.array_eval.specs.Overlays.{place_in}
use Rattle.array_eval.proofs.overlay.place.Given as goal

-- The index lies between the bounds.
abbrev pub invariant-loop-low : goal.invariant-loop-low
invariant-loop-low l = record {
  rising : IsRising l.pairs;
  low : l.low ≤ place_in l.cell l.pairs;
  high : place_in l.cell l.pairs ≤ l.high;
  within : l.high ≤ length l.pairs;
}

abbrev pub decreases-loop-low : goal.decreases-loop-low
decreases-loop-low l = l.high - l.low
