-- What a list shows of a hart: how many entries it made, how many stays it had, and how many sites it visited.
use Rattle.std.specs.Prelude.{◌≡◌, ◌↔◌, ℕ, zero, suc, ◌+◌, ◌≤◌, ◌==◌, Bool, true, false, not, ◌||◌, List, [], ◌∷◌, length, slice_index_or, take}
use Rattle.transfer_table.specs.Counts.{one_if}
use Rattle.transfer_table.specs.Plan.{Plan, IsPlan, IsHart, site_count}
use Rattle.transfer_table.specs.Entry.{made_by}
use Rattle.transfer_table.specs.Table.{TableState, admit_of, first_state, owner}
use Rattle.transfer_table.specs.Journal.{Reaches}
use Rattle.transfer_table.specs.declared.entry.Entry.{Entry}
use Rattle.journal_picture.specs.declared.stay.Stay.{Stay}
use Rattle.journal_picture.specs.declared.travels.Travels.{Travels}
use Rattle.journal_picture.specs.Drawn.{or_same}
use Rattle.journal_picture.specs.Stays.{stays_of}

-- One of the stays is at the site.
abbrev pub is_visited : List Stay → ℕ → Bool
is_visited [] s = false
is_visited (stay ∷ more) s = (stay.site == s) || is_visited more s

-- At how many of the sites up to this one a stay is. Site 0, the base, doesn't count.
abbrev pub visited_up_to : List Stay → ℕ → ℕ
visited_up_to stays zero = 0
visited_up_to stays (suc s) = visited_up_to stays s + one_if (is_visited stays (suc s))

-- How many of the first truth values of a list are true, up to this number of them.
abbrev pub seen_up_to : List Bool → ℕ → ℕ
seen_up_to seen zero = 0
seen_up_to seen (suc s) = seen_up_to seen s + one_if (slice_index_or seen s false)

-- The numbers of a hart.
abbrev pub travels_in : Plan → List Entry → ℕ → Travels
travels_in p es h = record {
  entries = length (made_by h es);
  stays = length (stays_of p h es);
  sites = visited_up_to (stays_of p h es) (site_count p);
}

-- The numbers of n harts, from hart h on.
abbrev pub travels_from : Plan → List Entry → ℕ → ℕ → List Travels
travels_from p es h zero = []
travels_from p es h (suc n) = travels_in p es h ∷ travels_from p es (h + 1) n

-- The numbers of every hart of the plan.
abbrev pub travels_of : Plan → List Entry → List Travels
travels_of p es = travels_from p es 0 p.harts

-- ---- laws

-- A site counts for a hart of a legal list exactly if the hart is there in a state to which some of the first entries lead.
abbrev pub VisitedHasPlace : Type 0
VisitedHasPlace = (p : Plan) (es : List Entry) (u : TableState) → IsPlan p → Reaches p es u
    → (h s : ℕ) → IsHart p h
    → (is_visited (stays_of p h es) s ≡ true)
    ↔ ((k : ℕ) × (t : TableState) × (k ≤ length es) × Reaches p (take k es) t × (owner t h ≡ s))

-- How many entries change where the hart is.
abbrev pub moves_from : Plan → TableState → List Entry → ℕ → ℕ
moves_from p t [] h = 0
moves_from p t (e ∷ es) h =
    one_if (not (owner (or_same t (admit_of p t e)) h == owner t h))
    + moves_from p (or_same t (admit_of p t e)) es h

-- A hart of a legal list has one stay more than there are entries that change where it is.
abbrev pub StaysAreMoves : Type 0
StaysAreMoves = (p : Plan) (es : List Entry) (u : TableState) → IsPlan p → Reaches p es u
    → (h : ℕ) → IsHart p h
    → length (stays_of p h es) ≡ 1 + moves_from p (first_state p) es h

-- The entries of the first harts, up to this number of harts.
abbrev pub made_up_to : List Entry → ℕ → ℕ
made_up_to es zero = 0
made_up_to es (suc h) = made_up_to es h + length (made_by h es)

-- The harts of a legal list made all its entries.
abbrev pub EntriesAreMade : Type 0
EntriesAreMade = (p : Plan) (es : List Entry) (u : TableState) → IsPlan p → Reaches p es u
    → made_up_to es p.harts ≡ length es
