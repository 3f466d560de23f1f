-- Pieces with recorded stretches of the cells that they touch.
use Rattle.std.specs.Prelude.{ℕ, ◌<◌, List, [], ◌∷◌, length, map}
use Rattle.array_meaning.specs.Stores.{Arrays, Vars}
use Rattle.array_meaning.specs.Steps.{Steps}
use Rattle.array_meaning.specs.Touch.{walk, IsApart}
use Rattle.array_meaning.specs.Sites.{Site, AreRoundsApart, AreSitesApart}
use Rattle.touch_bounds.specs.declared.apart.Piece.{Piece}
use Rattle.touch_bounds.specs.declared.touch.Touch.{Touch}
use Rattle.touch_bounds.specs.Ranges.{Bounds, AreWithin}
use Rattle.touch_bounds.specs.Touches.{DoClash, touch_at, AreVisitsNoted}

-- The recorded stretches of each piece, array by array.
abbrev pub tables_of : List Piece → List (List Touch)
tables_of pieces = map (λ p. p.touches.items) pieces

-- The recorded stretches of each piece include all cells that the piece touches.
abbrev pub ArePiecesNoted : Arrays → List (List Touch) → List Steps → Type 0
ArePiecesNoted arrays [] [] = Unit {0}
ArePiecesNoted arrays [] (piece ∷ more) = ⊥
ArePiecesNoted arrays (t ∷ rest) [] = ⊥
ArePiecesNoted arrays (t ∷ rest) (piece ∷ more) =
    AreVisitsNoted arrays t (walk arrays piece) × ArePiecesNoted arrays rest more

-- The pieces of a round, by the values of the variables around.
abbrev pub Round : Type 0
Round = Vars → List Steps

-- The recorded stretches of each piece are right, for any values of the variables between their bounds.
abbrev pub IsRoundNoted : Arrays → List (List Touch) → Bounds → Round → Type 0
IsRoundNoted arrays tables bounds round =
    (vars : Vars) → AreWithin bounds vars → ArePiecesNoted arrays tables (round vars)

-- The pieces are apart, for any values of the variables between their bounds.
abbrev pub IsRoundApart : Arrays → Bounds → Round → Type 0
IsRoundApart arrays bounds round =
    (vars : Vars) → AreWithin bounds vars → IsApart arrays (round vars)

-- In each round of a construct the pieces are apart, for any values of the variables between their bounds.
abbrev pub AreAllRoundsApart : Arrays → Bounds → (Vars → List (List Steps)) → Type 0
AreAllRoundsApart arrays bounds rounds =
    (vars : Vars) → AreWithin bounds vars → AreRoundsApart arrays (rounds vars)

-- At each site the pieces are apart, for any values of the variables between their bounds.
abbrev pub AreAllSitesApart : Arrays → Bounds → (Vars → List Site) → Type 0
AreAllSitesApart arrays bounds sites =
    (vars : Vars) → AreWithin bounds vars → AreSitesApart arrays (sites vars)

-- The piece clashes with none of these pieces on an array.
abbrev pub IsClearOf : ℕ → Touch → List (List Touch) → Type 0
IsClearOf number touch [] = Unit {0}
IsClearOf number touch (other ∷ more) =
    (¬ DoClash touch (touch_at other number)) × IsClearOf number touch more

-- No two of the pieces clash on an array.
abbrev pub AreClear : ℕ → List (List Touch) → Type 0
AreClear number [] = Unit {0}
AreClear number (t ∷ more) = IsClearOf number (touch_at t number) more × AreClear number more

-- Pieces are apart if their recorded stretches are right and clash on no array.
abbrev pub ClearPiecesAreApart : Type 0
ClearPiecesAreApart = (arrays : Arrays) (tables : List (List Touch)) (pieces : List Steps)
    → ArePiecesNoted arrays tables pieces →
    ((number : ℕ) → number < length arrays → AreClear number tables) → IsApart arrays pieces
