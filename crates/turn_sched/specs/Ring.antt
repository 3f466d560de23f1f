-- The ring of the children that wish for harts.
use Rattle.std.specs.Prelude.{◌≡◌, ℕ, ◌+◌, ◌-◌, ◌==◌, ◌||◌, nat_lt, min, not, Bool, false, List, [], ◌∷◌, ◌++◌, length, if◌then◌else◌}
use Rattle.std.specs.List.{filter}
use Rattle.turn_sched.specs.declared.ring.Place.{Place}

-- The ring's places, the first of them the place of the child whose turn it is, and the number of places for which there is
-- room.
pub record RingParts : Type 0 where
  pub places : List Place
  pub room : ℕ

-- Whether the child has a place.
abbrev pub has_place : ℕ → List Place → Bool
has_place child [] = false
has_place child (p ∷ ps) = (p.child == child) || has_place child ps

-- The place with more wishes, at most 255.
abbrev pub wishing_more : ℕ → Place → Place
wishing_more count p = record p { wishes = min (p.wishes + count) 255 }

-- The places, with more wishes for the child.
abbrev pub with_more : ℕ → ℕ → List Place → List Place
with_more child count [] = []
with_more child count (p ∷ ps) =
    if p.child == child then wishing_more count p ∷ ps else p ∷ with_more child count ps

-- The ring with a last place for the child, if there is room.
abbrev pub with_place : ℕ → ℕ → RingParts → RingParts
with_place child count ring =
    if nat_lt (length ring.places) ring.room then record ring {
      places = ring.places ++ record { child = child; wishes = count } ∷ [];
    } else ring

-- The ring after a child requested so many harts.
abbrev pub with_wishes : ℕ → ℕ → RingParts → RingParts
with_wishes child count ring =
    if count == 0 then ring else
    if has_place child ring.places then record ring {
      places = with_more child count ring.places;
    } else
    with_place child count ring

-- The ring without the child's place.
abbrev pub without_child : ℕ → RingParts → RingParts
without_child child ring = record ring { places = filter (λ p. not (p.child == child)) ring.places }

-- The rest of a place after its turn: the place with one wish less, or nothing if it had one wish.
abbrev pub left_of : Place → List Place
left_of p = if nat_lt 1 p.wishes then record p { wishes = p.wishes - 1 } ∷ [] else []

-- One turn: the hart is lent to the child of the first place, and the rest of that place goes last.
abbrev pub TakesTurn : List Place → ℕ → List Place → Type 0
TakesTurn [] child after = ⊥
TakesTurn (p ∷ ps) child after = (child ≡ p.child) × (after ≡ ps ++ left_of p)
