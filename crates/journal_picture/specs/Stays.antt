-- The stays of a hart: from which place of a list to which it is at a site. Place k is before entry k, and the last place is
-- behind all entries.
use Rattle.std.specs.Prelude.{ℕ, ◌+◌, ◌==◌, nat_le, Bool, true, ◌&&◌, List, [], ◌∷◌, ◌++◌, Option, Some, None}
use Rattle.transfer_table.specs.Causes.{cause_if}
use Rattle.transfer_table.specs.Plan.{Plan, parent}
use Rattle.transfer_table.specs.declared.entry.Entry.{Entry}
use Rattle.transfer_table.specs.declared.entry.Entry.TheVariants.{Register, Request, Enter, Yield, Unregister, Skip}
use Rattle.journal_picture.specs.declared.stay.Stay.{Stay}

-- The entry takes the hart to this site, if it moves it.
abbrev pub goes_to : Plan → ℕ → Entry → Option ℕ
goes_to p h (Register g s) = cause_if (g == h) s
goes_to p h (Request g s k) = None
goes_to p h (Enter g s) = cause_if (g == h) s
goes_to p h (Yield g s) = cause_if (g == h) (parent p s)
goes_to p h (Unregister g s) = cause_if (g == h) (parent p s)
goes_to p h (Skip g s) = None

-- Where the hart is, and from which place on, behind an entry at place k that moves it there or doesn't move it.
abbrev pub site_after : ℕ → Option ℕ → ℕ
site_after s None = s
site_after s (Some o) = o

-- A stay begins behind an entry that moves the hart, and otherwise where it began.
abbrev pub first_after : ℕ → ℕ → Option ℕ → ℕ
first_after first k None = first
first_after first k (Some o) = k + 1

-- The stay of the hart at the site up to this place, if the entry there moves it.
abbrev pub ended : ℕ → ℕ → ℕ → ℕ → Option ℕ → List Stay
ended h s first k None = []
ended h s first k (Some o) = record { hart = h; site = s; first = first; last = Some k } ∷ []

-- The stays of a hart that is at the site s from place `first` on, by the entries from place k on. Each entry that moves the
-- hart ends a stay, and the last one has no end.
abbrev pub stays_from : Plan → ℕ → ℕ → ℕ → ℕ → List Entry → List Stay
stays_from p h s first k [] = record { hart = h; site = s; first = first; last = None } ∷ []
stays_from p h s first k (e ∷ es) =
    ended h s first k (goes_to p h e)
    ++ stays_from p h (site_after s (goes_to p h e)) (first_after first k (goes_to p h e)) (k + 1) es

-- At first each hart is in the base.
abbrev pub stays_of : Plan → ℕ → List Entry → List Stay
stays_of p h es = stays_from p h 0 0 0 es

-- The place isn't behind this one.
abbrev pub is_up_to : Option ℕ → ℕ → Bool
is_up_to None k = true
is_up_to (Some last) k = nat_le k last

-- The place is one of the stay's.
abbrev pub has_place : ℕ → Stay → Bool
has_place k stay = nat_le stay.first k && is_up_to stay.last k
