-- What a board keeps beside the state, so that an admitted entry needs no scan of the plan.
use Rattle.std.specs.Prelude.{◌≡◌, ℕ, ◌+◌, ◌≤◌, ◌==◌, max, true, not, ◌&&◌, if◌then◌else◌, List, [], ◌∷◌, length, slice_index, slice_set}
use Rattle.transfer_table.specs.Plan.{Plan, site_count, is_within}
use Rattle.transfer_table.specs.Table.{Position, IsPosition, is_gone, row}
use Rattle.transfer_table.specs.declared.entry.Row.{Row}

-- The number of sites that have s as their parent and aren't gone. The lists are the parents and the rows.
abbrev pub count_left : List ℕ → List Row → ℕ → ℕ
count_left [] rs s = 0
count_left (q ∷ qs) [] s = 0
count_left (q ∷ qs) (r ∷ rs) s = if ((q == s) && not (is_gone r.stage)) then 1 + count_left qs rs s
    else count_left qs rs s

-- The list has, for the base and for each site, the number of its children that aren't gone.
pub record IsCount (p : Plan) (rows : List Row) (counts : List ℕ) : Type 0 where
  pub size : length counts ≡ site_count p + 1
  pub counted : (s : ℕ) → s ≤ site_count p → slice_index counts s ≡ count_left p.parents rows s

-- The list with the end of a site raised to at least this number.
abbrev pub raised : List ℕ → ℕ → ℕ → List ℕ
raised ends s end = slice_set ends s (max (slice_index ends s) end)

-- The list has an end for the base and for each site. No site within a site has a greater number than that site's end.
pub record AreEnds (p : Plan) (ends : List ℕ) : Type 0 where
  pub size : length ends ≡ site_count p + 1
  pub few : (s : ℕ) → slice_index ends s ≤ site_count p
  pub last : (s o : ℕ) → s ≤ site_count p → o ≤ site_count p → is_within p s o ≡ true → o ≤ slice_index ends s

-- The invariant of a board: the state fits the plan, no site has more unmet wishes than requested harts, and the counts and ends
-- are right.
pub record IsBoard (b : Position) (counts ends : List ℕ) : Type 0 where
  pub position : IsPosition b
  pub wished : (s : ℕ) → (row b.state s).wishes ≤ (row b.state s).asked
  pub left : IsCount b.plan b.state.rows counts
  pub bounds : AreEnds b.plan ends
