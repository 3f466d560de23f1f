-- The recorded stretches of cells that members touch, and the test that no member crosses another.
-- Only the private contracts and the proofs of this crate need these.
use Rattle.std.specs.Prelude.{ℕ, ◌<◌, List, length, ℤ, ◌≤ℤ◌}
use Rattle.array_meaning.specs.Stores.{Arrays, Vars}
use Rattle.array_meaning.specs.Steps.{Steps}
use Rattle.array_meaning.specs.Work.{Work, loop}
use Rattle.array_meaning.specs.Touch.{IsSeparate}
use Rattle.touch_bounds.specs.declared.touch.Touch.{Touch}
use Rattle.touch_bounds.specs.Ranges.{Bounds, AreWithin}
use Rattle.touch_bounds.specs.Touches.{DoClash, touch_at, IsWorkNoted}
use Rattle.phase_order.specs.Crossings.{IsPiece, HasNoCrossing}

-- The recorded stretches of a body cover any of its turns from one number to before another.
abbrev pub AreTurnsNoted : Arrays → List Touch → Bounds → List ℕ → ℤ → ℤ → Work → Type 0
AreTurnsNoted arrays touches bounds var low high body =
    (from to : ℤ) → low ≤ℤ from → to ≤ℤ high →
    IsWorkNoted arrays touches bounds (loop var from to body)

-- The recorded stretches of one clash with those of the other on no array.
abbrev pub AreClear : Arrays → List Touch → List Touch → Type 0
AreClear arrays one other =
    (number : ℕ) → number < length arrays → ¬ DoClash (touch_at one number) (touch_at other number)

-- In no phase does the member touch a cell that a member above it changed in an earlier phase, or change a cell that such a
-- member touched.
abbrev pub IsMemberClear : Arrays → ℕ → List (List Steps) → Type 0
IsMemberClear arrays member rounds =
    (high early late : ℕ) (one other : Steps) → member < high → early < late →
    IsPiece rounds member late one → IsPiece rounds high early other → IsSeparate arrays one other

-- The member is clear for any values of the variables between their bounds.
abbrev pub IsMemberAlwaysClear : Arrays → Bounds → ℕ → (Vars → List (List Steps)) → Type 0
IsMemberAlwaysClear arrays bounds member rounds =
    (vars : Vars) → AreWithin bounds vars → IsMemberClear arrays member (rounds vars)

-- The rounds have no crossing, for any values of the variables between their bounds.
abbrev pub HasNeverCrossing : Arrays → Bounds → (Vars → List (List Steps)) → Type 0
HasNeverCrossing arrays bounds rounds =
    (vars : Vars) → AreWithin bounds vars → HasNoCrossing arrays (rounds vars)
