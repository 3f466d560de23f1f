-- Which members of each claim counter are claimed, and by which seat.
use Rattle.std.specs.Prelude.{◌≡◌, ℕ, suc, ◌+◌, ◌<◌, ◌≤◌, List, [], ◌∷◌, ◌++◌, length, if◌then◌else◌, ◌==◌, ◌&&◌, nat_lt, slice_index}
use mathlib.Core.Option.{some}
use lib.ListN.{get_elem?}
use Rattle.atomic_table.specs.Table.{State}
use Rattle.claim_words.specs.declared.seat_view.SeatView.{SeatView}
use Rattle.claim_words.specs.declared.seat_view.Look.{Look}
use Rattle.claim_words.specs.declared.seat_view.LookKind.{LookKind}
use Rattle.claim_words.specs.declared.seat_view.LookKind.TheVariants as kind

-- A noted word of a counter.
abbrev pub look : ℕ → LookKind → ℕ → Look
look row k found = record { row = row; kind = k; found = found }

-- The sum of f over a list.
abbrev pub weigh : {X : Type 0} → (X → ℕ) → List X → ℕ
weigh f [] = 0
weigh f (x ∷ xs) = f x + weigh f xs

-- 1 if a claim is of this counter and member
abbrev pub is_claim : ℕ → ℕ → ℕ × ℕ → ℕ
is_claim r m x = if (x.0 == r) && (x.1 == m) then 1 else 0

-- 1 if a number is of this counter
abbrev pub is_row : ℕ → ℕ → ℕ
is_row r x = if x == r then 1 else 0

-- How often a seat claimed this member, and how often it drew a number past a counter's members.
abbrev pub claims : ℕ → ℕ → SeatView → ℕ
claims r m v = weigh (is_claim r m) v.claimed

-- How often a seat drew a number past a counter's members.
abbrev pub pasts : ℕ → SeatView → ℕ
pasts r v = weigh (is_row r) v.past

-- 1 for a number below the word that is a member, else 0
abbrev pub once : ℕ → ℕ → ℕ → ℕ
once m word count = if nat_lt m word && nat_lt m count then 1 else 0

-- 1 for a word that was read and is more than the row's word now, else 0
abbrev pub past_word : List ℕ → Look → ℕ
past_word words x = if nat_lt (slice_index words x.row) x.found then 1 else 0

-- What a view states by itself: a seat draws from a counter only after it saw a free member, so it draws past the members at
-- most once.
pub record Keeps (counts words : List ℕ) (v : SeatView) : Type 0 where
  pub spent : v.parts ≡ 0 → (v.claimed ≡ []) × (v.past ≡ []) × (v.trying ≡ 0)
  pub few : (r : ℕ) → pasts r v ≤ v.parts
  pub fresh : (r : ℕ) → v.trying ≡ suc r → pasts r v ≡ 0
  pub over : (r : ℕ) → 0 < pasts r v → slice_index counts r ≤ slice_index words r
  pub reported : 0 < v.parts → v.counts ≡ counts
  pub seen : weigh (past_word words) v.looks ≡ 0

-- F holds of each seat's view
abbrev pub Each : (SeatView → Type 0) → List SeatView → Type 0
Each F views = (port : ℕ) (v : SeatView) → get_elem? views port ≡ some v → F v

-- The invariant of the words: each member below a counter's word is claimed once, and no other; a word is past its members
-- only by numbers that were drawn past them, so no word wraps.
pub record ClaimsStand (counts : List ℕ) (s : State ℕ SeatView) : Type 0 where
  pub parts : weigh (λ (v : SeatView). v.parts) s.views ≡ 256
  pub once_each : (r m : ℕ) → weigh (claims r m) s.views ≡ once m (slice_index s.words r)
      (slice_index counts r)
  pub bound : (r : ℕ) → slice_index s.words r ≤ slice_index counts r + weigh (pasts r) s.views
  pub each : Each (Keeps counts s.words) s.views
  pub rows : length s.words ≡ length counts + 1
  pub small : (r : ℕ) → slice_index counts r < 256

-- The view of a new seat.
abbrev pub fresh : ℕ → List ℕ → SeatView
fresh parts counts = record {
  parts = parts;
  counts = counts;
  claimed = [];
  past = [];
  trying = 0;
  looks = [];
}

-- The view after a look, and after a number was drawn.
abbrev pub looked : SeatView → ℕ → ℕ → SeatView
looked v r n = record v {
  trying = if nat_lt n (slice_index v.counts r) then suc r else 0;
  looks = v.looks ++ look r kind.Look n ∷ [];
}

-- The view after a number was drawn.
abbrev pub drawn : SeatView → ℕ → ℕ → SeatView
drawn v r n = record v {
  trying = 0;
  looks = v.looks ++ look r kind.Draw n ∷ [];
  claimed = if nat_lt n (slice_index v.counts r) then v.claimed ++ (r, n) ∷ [] else v.claimed;
  past = if nat_lt n (slice_index v.counts r) then v.past else v.past ++ r ∷ [];
}

-- The view after another seat was joined into this one.
abbrev pub joined : SeatView → SeatView → SeatView
joined v w = record {
  parts = v.parts + w.parts;
  counts = v.counts;
  claimed = v.claimed ++ w.claimed;
  past = v.past
      ++ w.past;
  trying = 0;
  looks = v.looks ++ w.looks;
}
