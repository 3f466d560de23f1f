-- The strip: for each place how many wishes are unmet, how many harts are idle, and whether a lender missed a wish.
use Rattle.std.specs.Prelude.{◌≡◌, ◌≢◌, ◌↔◌, ℕ, zero, suc, ◌+◌, ◌-◌, ◌<◌, ◌≤◌, ◌==◌, nat_le, Bool, true, false, if◌then◌else◌, ◌&&◌, ◌||◌, List, [], ◌∷◌, length, take, slice_get, Some}
use Rattle.transfer_table.specs.Counts.{one_if}
use Rattle.transfer_table.specs.Plan.{Plan, IsHart, IsSite, parent, site_count}
use Rattle.transfer_table.specs.Table.{TableState, admit_of, first_state, is_live, owner, row}
use Rattle.transfer_table.specs.Journal.{Reaches}
use Rattle.transfer_table.specs.declared.entry.Row.{Row}
use Rattle.transfer_table.specs.declared.entry.Stage.TheVariants.{Live}
use Rattle.transfer_table.specs.declared.entry.Entry.{Entry}
use Rattle.journal_picture.specs.Drawn.{or_same}
use Rattle.journal_picture.specs.declared.strip.Figures.{Figures}

-- The number of a site's unmet wishes. A site that isn't live has none.
abbrev pub unmet_of : Row → ℕ
unmet_of found = if is_live found.stage then found.wishes else 0

-- The number of unmet wishes of the live sites up to this one.
abbrev pub unmet_up_to : TableState → ℕ → ℕ
unmet_up_to t zero = 0
unmet_up_to t (suc s) = unmet_up_to t s + unmet_of (row t (suc s))

-- The number of harts from 1 up to this one that are in the base.
abbrev pub idle_up_to : TableState → ℕ → ℕ
idle_up_to t zero = 0
idle_up_to t (suc h) = idle_up_to t h + one_if (owner t (suc h) == 0)

-- The site is a live child of the base and has an unmet wish.
abbrev pub is_wishing : Plan → TableState → ℕ → Bool
is_wishing p t s =
    (parent p s == 0) && nat_le 1 (unmet_of (row t s))

-- One of the sites up to this one is a live child of the base with an unmet wish.
abbrev pub wishing_up_to : Plan → TableState → ℕ → Bool
wishing_up_to p t zero = false
wishing_up_to p t (suc s) = wishing_up_to p t s || is_wishing p t (suc s)

-- The number of unmet wishes of all live sites.
abbrev pub unmet_in : Plan → TableState → ℕ
unmet_in p t = unmet_up_to t (site_count p)

-- The number of idle harts: the harts in the base, but for hart 0, which runs the program's body there.
abbrev pub idle_in : Plan → TableState → ℕ
idle_in p t = idle_up_to t (p.harts - 1)

-- A hart is idle while a live child of the base has an unmet wish. Only the base can lend an idle hart, so wishes of other
-- sites don't count.
abbrev pub is_missed : Plan → TableState → Bool
is_missed p t = nat_le 1 (idle_in p t) && wishing_up_to p t (site_count p)

-- The figures of the strip for a state.
abbrev pub figures_of : Plan → TableState → Figures
figures_of p t =
    record { unmet = unmet_in p t; idle = idle_in p t; missed = is_missed p t }

-- Of all sites of the plan, only those numbered from low + 1 to high have unmet wishes.
pub record HasWishesWithin (p : Plan) (t : TableState) (low high : ℕ) : Type 0 where
  pub order : low ≤ high
  pub fits : high ≤ site_count p
  pub below : (s : ℕ) → 1 ≤ s → s ≤ low → unmet_of (row t s) ≡ 0
  pub above : (s : ℕ) → high < s → s ≤ site_count p → unmet_of (row t s) ≡ 0

-- The figures of a state, and of the states to which the entries lead one after another.
abbrev pub strip_from : Plan → TableState → List Entry → List Figures
strip_from p t [] = figures_of p t ∷ []
strip_from p t (e ∷ es) = figures_of p t ∷ strip_from p (or_same t (admit_of p t e)) es

-- The figures of every place of a list, from the first state of the table on.
abbrev pub strip_of : Plan → List Entry → List Figures
strip_of p es = strip_from p (first_state p) es

-- ---- laws

-- Where the first k entries lead to a state, the strip has at place k the figures of this state.
abbrev pub StripHasFigures : Type 0
StripHasFigures = (p : Plan) (es : List Entry) (k : ℕ) (t : TableState)
    → k ≤ length es → Reaches p (take k es) t
    → slice_get (strip_of p es) k ≡ Some (figures_of p t)

-- A hart other than the body's is in the base.
abbrev pub SomeIdle : Plan → TableState → Type 0
SomeIdle p t = (h : ℕ) × IsHart p h × (h ≢ 0) × (owner t h ≡ 0)

-- A live child of the base has an unmet wish.
abbrev pub SomeWish : Plan → TableState → Type 0
SomeWish p t = (s : ℕ) × IsSite p s × (parent p s ≡ 0) × ((row t s).stage ≡ Live)
    × (1 ≤ (row t s).wishes)

-- The strip is red exactly where some live child of the base has an unmet wish while a hart is idle.
abbrev pub RedIsMissed : Type 0
RedIsMissed = (p : Plan) (t : TableState)
    → (figures_of p t).missed ≡ true ↔ (SomeIdle p t × SomeWish p t)
