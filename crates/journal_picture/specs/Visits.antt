-- What the states of a list show of a site: the greatest number of guests at once, and how many entries harts made inside it.
use Rattle.std.specs.Prelude.{◌≡◌, ℕ, zero, suc, ◌+◌, ◌-◌, ◌≤◌, ◌==◌, nat_lt, max, Bool, not, ◌&&◌, ◌||◌, if◌then◌else◌, List, [], ◌∷◌, length, slice_index, slice_index_or, slice_set, take, Option}
use Rattle.transfer_table.specs.Counts.{one_if}
use Rattle.transfer_table.specs.Plan.{Plan, IsPlan, IsSite, site_count}
use Rattle.transfer_table.specs.Entry.{hart_of, enters, requested}
use Rattle.transfer_table.specs.Table.{TableState, admit_of, first_state, is_home, is_live, owner, row}
use Rattle.transfer_table.specs.Journal.{Reaches}
use Rattle.transfer_table.specs.declared.entry.Row.{Row}
use Rattle.transfer_table.specs.declared.entry.Entry.{Entry}
use Rattle.journal_picture.specs.Drawn.{or_same}
use Rattle.journal_picture.specs.declared.visits.Visits.{Visits}

-- How many of the harts numbered below n are in the site and aren't its home.
abbrev pub guests_below : List ℕ → ℕ → Option ℕ → ℕ → ℕ
guests_below owners s home zero = 0
guests_below owners s home (suc h) =
    guests_below owners s home h + one_if ((slice_index owners h == s) && not (is_home home h))

-- The guests of a site with this row. A site that isn't live has none.
abbrev pub guests_by : Plan → List ℕ → ℕ → Row → ℕ
guests_by p owners s found =
    if is_live found.stage then guests_below owners s found.home p.harts else 0

-- The guests of a site in a state.
abbrev pub guests_in : Plan → TableState → ℕ → ℕ
guests_in p t s = guests_by p t.owners s (row t s)

-- The greatest number of guests at once, in a state and in those to which the entries lead one after another.
abbrev pub most_from : Plan → TableState → List Entry → ℕ → ℕ
most_from p t [] s = guests_in p t s
most_from p t (e ∷ es) s =
    max (guests_in p t s) (most_from p (or_same t (admit_of p t e)) es s)

-- The site in which the hart of an entry is; 0 if the plan has no such hart.
abbrev pub site_at : Plan → TableState → Entry → ℕ
site_at p t e = if nat_lt (hart_of e) p.harts then owner t (hart_of e) else 0

-- How many entries harts make while they are in the site.
abbrev pub made_from : Plan → TableState → List Entry → ℕ → ℕ
made_from p t [] s = 0
made_from p t (e ∷ es) s =
    one_if (site_at p t e == s) + made_from p (or_same t (admit_of p t e)) es s

-- Both numbers of a site.
abbrev pub visits_in : Plan → List Entry → ℕ → Visits
visits_in p es s = record {
  guests = most_from p (first_state p) es s;
  entries = made_from p (first_state p) es s;
}

-- The numbers of n sites, from site s on.
abbrev pub visits_from : Plan → List Entry → ℕ → ℕ → List Visits
visits_from p es s zero = []
visits_from p es s (suc n) = visits_in p es s ∷ visits_from p es (s + 1) n

-- The numbers of every site of the plan.
abbrev pub visits_of : Plan → List Entry → List Visits
visits_of p es = visits_from p es 1 (site_count p)

-- ---- one entry more

-- The numbers of a site, in a list that has those of site s at index s - 1.
abbrev pub visits_at : List Visits → ℕ → Visits
visits_at vs s = slice_index_or vs (s - 1) record { guests = 0; entries = 0 }

-- The list has no numbers of the site.
abbrev pub is_outside : List Visits → ℕ → Bool
is_outside vs s = (s == 0) || nat_lt (length vs) s

-- A hart in the site makes one more entry.
abbrev pub with_entry : List Visits → ℕ → List Visits
with_entry vs s =
    if is_outside vs s then vs
    else slice_set vs (s - 1) record (visits_at vs s) { entries = (visits_at vs s).entries + 1 }

-- The site has so many guests.
abbrev pub with_guests : List Visits → ℕ → ℕ → List Visits
with_guests vs s n =
    if is_outside vs s then vs
    else slice_set vs (s - 1) record (visits_at vs s) { guests = max (visits_at vs s).guests n }

-- An entry counts for the site in which its hart is before it. After it, only the site in which the hart is then can have more guests.
abbrev pub followed_by : Plan → TableState → TableState → List Visits → Entry → List Visits
followed_by p t u vs e =
    with_guests (with_entry vs (site_at p t e)) (site_at p u e) (guests_in p u (site_at p u e))

-- The numbers of the sites after one more entry. A refused entry leaves the table's state unchanged.
abbrev pub followed : Plan → TableState → List Visits → Entry → List Visits
followed p t vs e = followed_by p t (or_same t (admit_of p t e)) vs e

-- ---- laws

-- As far as a list is legal, a site has at most so many guests in each state.
abbrev pub GuestsAreAtMost : Type 0
GuestsAreAtMost = (p : Plan) (es : List Entry) (k : ℕ) (t : TableState)
    → k ≤ length es → Reaches p (take k es) t
    → (s : ℕ) → guests_in p t s ≤ (visits_in p es s).guests

-- A legal list has a place at which the site has so many guests.
abbrev pub GuestsAreReached : Type 0
GuestsAreReached = (p : Plan) (es : List Entry) (u : TableState) → Reaches p es u → (s : ℕ)
    → (k : ℕ) × (t : TableState) × (k ≤ length es) × Reaches p (take k es) t
    × (guests_in p t s ≡ (visits_in p es s).guests)

-- Of a legal list, the harts that a site requested and those that met a wish are as many as its entries say.
abbrev pub MetWishesEntered : Type 0
MetWishesEntered = (p : Plan) (es : List Entry) (t : TableState) → IsPlan p → Reaches p es t
    → (s : ℕ) → IsSite p s
    → ((row t s).asked ≡ requested s es) × ((row t s).asked - (row t s).wishes ≡ enters s es)
