-- The result of a claim, and all seats of a table.
use Rattle.std.specs.Prelude.{◌≡◌, ℕ, ◌+◌, ◌<◌, ◌≤◌, ◌⊎◌, List, [], ◌∷◌, ◌++◌, slice_index}
use Rattle.atomic_table.specs.Seated.{TableId}
use Rattle.claim_words.specs.declared.seat_view.SeatView.{SeatView}
use Rattle.claim_words.specs.declared.seat_view.LookKind.TheVariants as kind
use Rattle.claim_words.specs.declared.seat.ClaimSeat.{ClaimSeat}
use Rattle.claim_words.specs.declared.table.ClaimTable.{ClaimTable}
use Rattle.claim_words.specs.declared.claimed.Claimed.{Claimed}
use Rattle.claim_words.specs.declared.claimed.Claimed.TheVariants.{Member, NoneLeft}
use Rattle.claim_words.specs.Claims.{look, weigh, claims, once, past_word}

-- What a seat knows.
abbrev pub seat_view : ClaimSeat → SeatView
seat_view s = s.seat.me.0

-- What no claim changes: the seat's table, the members of its counters, and its parts.
pub record SeatIdentity : Type 0 where
  pub table : TableId
  pub counts : List ℕ
  pub parts : ℕ

-- The identity of a seat.
abbrev pub identity : ClaimSeat → SeatIdentity
identity s = record { table = s.seat.table_id; counts = (seat_view s).counts; parts = (seat_view s).parts }

-- The seat is one of the table.
abbrev pub IsOf : ClaimTable → SeatIdentity → Type 0
IsOf t k = (k.table ≡ t.table.shared.table_id) × (k.counts ≡ t.counts.items)

-- The seats are of the table.
abbrev pub AreOf : ClaimTable → List SeatIdentity → Type 0
AreOf t [] = Unit {0}
AreOf t (k ∷ all) = IsOf t k × AreOf t all

-- The number of parts of seats.
abbrev pub parts_of : List SeatIdentity → ℕ
parts_of [] = 0
parts_of (k ∷ all) = k.parts + parts_of all

-- These are all seats of the table.
pub record AreAll (t : ClaimTable) (all : List SeatIdentity) : Type 0 where
  pub of : AreOf t all
  pub whole : parts_of all ≡ 256

-- The seat has claimed nothing and read nothing.
abbrev pub IsNew : ClaimSeat → Type 0
IsNew s = ((seat_view s).claimed ≡ []) × ((seat_view s).looks ≡ [])

-- The view before and after a claim. The call notes each word that it read, as a load or as an addition; the word in the
-- result is the last of them.
abbrev pub ClaimGives : List ℕ → ℕ → ClaimSeat → Claimed → ClaimSeat → Type 0
ClaimGives counts row old (Member m) new =
    (m < slice_index counts row) × ((seat_view new).claimed ≡ (seat_view old).claimed ++ (row, m) ∷ [])
    × ((n : ℕ) × (n < slice_index counts row)
    × ((seat_view new).looks ≡ (seat_view old).looks ++ look row kind.Look n
    ∷ look row kind.Draw m ∷ []))
ClaimGives counts row old (NoneLeft shown) new =
    (slice_index counts row ≤ shown) × ((seat_view new).claimed ≡ (seat_view old).claimed)
    × (((seat_view new).looks ≡ (seat_view old).looks ++ look row kind.Look shown ∷ [])
    ⊎ ((n : ℕ) × (n < slice_index counts row)
    × ((seat_view new).looks ≡ (seat_view old).looks ++ look row kind.Look n
    ∷ look row kind.Draw shown ∷ [])))

-- How often all these seats claimed this member of this counter.
abbrev pub claims_of : ℕ → ℕ → List ClaimSeat → ℕ
claims_of r m [] = 0
claims_of r m (s ∷ seats) = claims r m (seat_view s) + claims_of r m seats

-- How many words all these seats read that are above the counter's word.
abbrev pub reads_past : List ℕ → List ClaimSeat → ℕ
reads_past words [] = 0
reads_past words (s ∷ seats) = weigh (past_word words) (seat_view s).looks + reads_past words seats

-- The account of all these seats, with the counters' words. All seats together claimed each member below the word once, and
-- nothing else. No word that was read is above the counter's, so if a seat found none left, each member was claimed.
pub record AreAccounted (counts : List ℕ) (seats : List ClaimSeat) : Type 0 where
  pub words : List ℕ
  pub each : (r m : ℕ) → claims_of r m seats ≡ once m (slice_index words r) (slice_index counts r)
  pub reads : reads_past words seats ≡ 0
