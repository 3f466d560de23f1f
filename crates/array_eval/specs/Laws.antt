-- Laws of overlays.
use Rattle.std.specs.Prelude.{ℕ, ◌<◌, ◌≤◌, List, All, length}
use Rattle.array_meaning.specs.Stores.{Write}
use Rattle.array_meaning.specs.Pieces.{IsRising}

-- A rising list of cells below a number has at most that many pairs.
abbrev pub RisingListsAreShort : Type 0
RisingListsAreShort = (cells : ℕ) (pairs : List Write) → IsRising pairs
    → All (λ pair. pair.0 < cells) pairs → length pairs ≤ cells
