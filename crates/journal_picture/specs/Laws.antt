-- The laws of stays and of the escaped verdict, for every plan and every list of entries.
use Rattle.std.specs.Prelude.{◌≡◌, ℕ, ◌+◌, ◌≤◌, true, List, [], ◌∷◌, length, take, Some, None}
use Rattle.std.specs.List.{filter, list_all}
use Rattle.transfer_table.specs.Plan.{Plan, IsPlan, IsHart, IsSite, IsWithin}
use Rattle.transfer_table.specs.Table.{TableState, owner, row}
use Rattle.transfer_table.specs.Journal.{Reaches}
use Rattle.transfer_table.specs.declared.entry.Entry.{Entry}
use Rattle.journal_picture.specs.declared.stay.Stay.{Stay}
use Rattle.journal_picture.specs.Stays.{stays_of, has_place}
use Rattle.journal_picture.specs.Kinds.{is_plain}
use Rattle.journal_picture.specs.SvgPicture.{escaped}

-- Of the hart's stays this one has the place, and no other.
abbrev pub IsOnlyAt : Plan → List Entry → ℕ → ℕ → Stay → Type 0
IsOnlyAt p es h k stay = filter (has_place k) (stays_of p h es) ≡ stay ∷ []

-- Where the first k entries lead to a state, each hart is in exactly one of its stays at place k, and that is at the site that
-- holds the hart in this state. Each place of a legal list is such a k.
abbrev pub OneStayAtEachPlace : Type 0
OneStayAtEachPlace = (p : Plan) (es : List Entry) (k : ℕ) (t : TableState) → IsPlan p
    → k ≤ length es → Reaches p (take k es) t → (h : ℕ) → IsHart p h
    → (stay : Stay) × IsOnlyAt p es h k stay × (stay.hart ≡ h) × (stay.site ≡ owner t h)

-- The first of these stays begins at this place, and each other one at the place behind the last one of the stay before it. None
-- ends before it begins, and only the last one has no end.
abbrev pub FollowFrom : ℕ → List Stay → Type 0
FollowFrom k [] = ⊥
FollowFrom k (stay ∷ []) = (stay.first ≡ k) × (stay.last ≡ None)
FollowFrom k (stay ∷ next ∷ more) = (stay.first ≡ k)
    × ((last : ℕ) × (stay.last ≡ Some last) × (k ≤ last) × FollowFrom (last + 1) (next ∷ more))

-- The stays of each hart follow one another, for each plan and list.
abbrev pub StaysFollowOneAnother : Type 0
StaysFollowOneAnother = (p : Plan) (es : List Entry) (h : ℕ) → FollowFrom 0 (stays_of p h es)

-- Where the first k entries lead to a state, and a stay at a site has place k: the site has a home then, and the home's stay at
-- this place is at the site or at a descendant of it.
abbrev pub GuestsAreWithTheHome : Type 0
GuestsAreWithTheHome = (p : Plan) (es : List Entry) (k : ℕ) (t : TableState) → IsPlan p
    → k ≤ length es → Reaches p (take k es) t → (h : ℕ) → IsHart p h
    → (stay : Stay) → IsOnlyAt p es h k stay → IsSite p stay.site
    → (home : ℕ) × (homes : Stay) × ((row t stay.site).home ≡ Some home)
    × IsOnlyAt p es home k homes × IsWithin p stay.site homes.site

-- Whatever the verdict's line is, its escaped form has no `<`.
abbrev pub EscapedHasNoMarkup : Type 0
EscapedHasNoMarkup = (verdict : List ℕ) → list_all is_plain (escaped verdict) ≡ true
