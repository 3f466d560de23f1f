-- Programs whose pieces overlap only on accumulating arrays, if at all.
use Rattle.std.specs.Prelude.{◌≡◌, ◌↔◌, ℕ, ◌+◌, ◌<◌, ◌≤◌, List, [], ◌∷◌, None, IsTrue}
use Rattle.array_tree.specs.Trees.{ProgramTree}
use Rattle.array_meaning.specs.Stores.{Arrays, arrays_of, base_of}
use Rattle.array_meaning.specs.Steps.{Steps}
use Rattle.array_meaning.specs.Overlap.{IsClash}
use Rattle.array_meaning.specs.Pieces.{IsMember}
use Rattle.array_meaning.specs.Sites.{Site, sequence_sites}
use Rattle.array_meaning.specs.Accepted.{HasApartSites}
use Rattle.spread_laws.specs.Adds.{is_sum}
use Rattle.spread_laws.specs.Spread.{spread_of}
use Rattle.spread_laws.specs.Faults.{spread_fault_of}
use Rattle.spread_laws.specs.Served.{HasMeaning, IsNarrow}

-- The cell belongs to an accumulating array.
pub record IsSumCell (arrays : Arrays) (cell : ℕ) : Type 0 where
  pub array : List ℕ × ℕ
  pub declared : IsMember array arrays
  pub sum : IsTrue (is_sum array.0)
  pub from : base_of arrays array.0 ≤ cell
  pub below : cell < base_of arrays array.0 + array.1

-- The pieces are apart except for accumulating arrays: each cell on which two different pieces clash belongs to such an array.
abbrev pub IsApartButForSums : Arrays → List Steps → Type 0
IsApartButForSums arrays pieces = (cell : ℕ) → IsClash arrays pieces cell → IsSumCell arrays cell

-- The pieces of each of these rounds are apart except for accumulating arrays.
abbrev pub AreRoundsApartButForSums : Arrays → List (List Steps) → Type 0
AreRoundsApartButForSums arrays [] = Unit {0}
AreRoundsApartButForSums arrays (round ∷ more) =
    IsApartButForSums arrays round × AreRoundsApartButForSums arrays more

-- At each of these sites, the pieces of each round are apart except for accumulating arrays.
abbrev pub AreSitesApartButForSums : Arrays → List Site → Type 0
AreSitesApartButForSums arrays [] = Unit {0}
AreSitesApartButForSums arrays (site ∷ more) =
    AreRoundsApartButForSums arrays site.rounds × AreSitesApartButForSums arrays more

-- At each site of the program, the pieces of each round are apart except for accumulating arrays. (A program without a spread
-- fault mentions these arrays inside constructs only in adds.)
abbrev pub HasApartSitesButForSums : ProgramTree → Type 0
HasApartSitesButForSums program =
    AreSitesApartButForSums (arrays_of program.arrays) (sequence_sites program.body [])

-- The spread program meets the checker's last condition, that the sites are apart, if and only if the sites of the given
-- program are apart except for accumulating arrays. So the rows add no overlap and hide none.
abbrev pub RowsAreApart : Type 0
RowsAreApart = (program : ProgramTree) → HasMeaning program → IsNarrow program →
    spread_fault_of program ≡ None
    → HasApartSites (spread_of program) ↔ HasApartSitesButForSums program
