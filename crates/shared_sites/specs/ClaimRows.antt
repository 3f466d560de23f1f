-- The claim counters of a program's sites.
use Rattle.std.specs.Prelude.{◌≡◌, ℕ, ◌-◌, ◌==◌, List, [], ◌∷◌, ◌++◌, length, map, replicate, take, slice_get, if◌then◌else◌, Option, Some, None}
use Rattle.claim_words.specs.declared.table.TheConstants.{MOST_ROWS}
use Rattle.disjoint_check.specs.Shapes.{Shape}
use Rattle.step_eval.specs.Nests.{NestedParts}
use Rattle.loop_team.specs.Teams.{phases_in}
use Rattle.shared_sites.specs.declared.claims.SiteRows.{SiteRows}

-- The numbers of members of a site's claim counters: one counter for each phase of a `team`, none for a `par`.
abbrev pub rows_of_shape : Shape → List ℕ
rows_of_shape shape = replicate shape.1 shape.0

-- The counters of all sites, in the order of the sites and then of the phases.
abbrev pub rows_of_shapes : List Shape → List ℕ
rows_of_shapes [] = []
rows_of_shapes (shape ∷ more) = rows_of_shape shape ++ rows_of_shapes more

-- The first so many of them, as many as a table may have.
abbrev pub claim_rows : List Shape → List ℕ
claim_rows shapes = take MOST_ROWS (rows_of_shapes shapes)

-- The shape of a site, by its counters.
abbrev pub shape_of : SiteRows → Shape
shape_of rows = (rows.members, rows.phases)

-- The first counter of each site comes after those of the sites before it.
abbrev pub AreBehind : List SiteRows → Type 0
AreBehind sites = (i : ℕ) (rows : SiteRows) → slice_get sites i ≡ Some rows
    → rows.first ≡ length (claim_rows (take i (map shape_of sites)))

-- The element of a site, at the index before its number.
abbrev pub at_site : {X : Type 0} → List X → ℕ → Option X
at_site list site = if site == 0 then None else slice_get list (site - 1)

-- The construct's site is one of these, with as many phases, and this is the first of its counters.
pub record IsFirstRow (shapes : List Shape) (nested : NestedParts) (row : ℕ) : Type 0 where
  pub shape : Shape
  pub there : at_site shapes nested.site ≡ Some shape
  pub phases : shape.1 ≡ phases_in nested
  pub behind : row ≡ length (claim_rows (take (nested.site - 1) shapes))
