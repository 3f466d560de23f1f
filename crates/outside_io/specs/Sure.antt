-- The source and the sink in memory that never fail.
use Rattle.std.specs.Prelude.{ℕ, ◌+◌, nat_le, min, List, [], ◌∷◌, ◌++◌, length, Option, Some, None, if◌then◌else◌}
use Rattle.outside_io.specs.Shelf.{Shelf}
use Rattle.outside_io.specs.declared.source.Fill.{Fill}
use Rattle.outside_io.specs.declared.source.Fill.TheVariants as fill

-- As many bytes as fit, and the end where none is left.
abbrev pub sure_fill : List ℕ → ℕ → Fill
sure_fill [] size = fill.End
sure_fill (byte ∷ bytes) size = fill.Got (min (length (byte ∷ bytes)) size)

-- A sink with this room that has taken nothing.
abbrev pub empty_shelf : ℕ → Shelf
empty_shelf room = record { room = room; taken = Some [] }

-- A piece is kept if it fits the room; if not, the sink shows nothing from then on.
abbrev pub kept_within : ℕ → Option (List ℕ) → List ℕ → Option (List ℕ)
kept_within room None piece = None
kept_within room (Some taken) piece =
    if nat_le (length taken + length piece) room then Some (taken ++ piece) else None

-- The sink after a piece was written.
abbrev pub laid_up : Shelf → List ℕ → Shelf
laid_up shelf piece = record { room = shelf.room; taken = kept_within shelf.room shelf.taken piece }
