-- The indices of a journal.
use Rattle.std.specs.Prelude.{◌≡◌, ℕ, ◌≤◌, List, [], ◌∷◌, ◌++◌, slice_get, Some}
use Rattle.std.specs.List.{AllZip}
use Rattle.transfer_table.specs.declared.entry.Entry.{Entry}
use Rattle.board_rule.specs.Encodings.{spelled}

-- The word of a journal index encodes the entry and no view has reserved the index, or the word is 0 and one view has reserved
-- the index.
pub record IsPlace (word draws : ℕ) (e : Entry) : Type 0 where
  pub one : draws ≤ 1
  pub written : draws ≡ 0 → word ≡ spelled e
  pub due : draws ≡ 1 → word ≡ 0

-- Each of a seat's entries is in the journal at the index that the seat reserved for it.
abbrev pub AreAt : List Entry → List Entry → List ℕ → Type 0
AreAt journal mine places = AllZip (λ e i. slice_get journal i ≡ Some e) mine places

-- The entry is the last of the list.
abbrev pub is_last : List Entry → Entry → Type 0
is_last es e = (ds : List Entry) × (es ≡ ds ++ e ∷ [])
