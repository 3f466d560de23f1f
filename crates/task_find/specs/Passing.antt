-- The first element, within a range of a list, that passes a test.
use Rattle.std.specs.Prelude.{◌≡◌, ◌≤◌, ◌<◌, ℕ, Bool, true, false, List, slice_index_or}
use Rattle.std.proofs.Common.{⊎_elim}
use Rattle.std.proofs.Math.Nat.{le_trans, lt_of_lt_of_le}
use Rattle.std.proofs.lemmas.Bool.{cases_lt}

module _ {A : Type 0} (passes : A → Bool) (xs : List A) where
  -- No element from one index up to another passes.
  abbrev pub NonePass : ℕ → ℕ → Type 0
  NonePass low high = (i : ℕ) (other : A) → low ≤ i → i < high → passes (slice_index_or xs i other) ≡ false

  -- The element at an index of the range passes, and none before it in the range.
  abbrev pub FirstPass : ℕ → ℕ → ℕ → Type 0
  FirstPass low high index =
      (low ≤ index) × (index < high) × ((other : A) → passes (slice_index_or xs index other) ≡ true) × NonePass low index

  -- The first of the front part of a range is the first of the range.
  pub front_first : (low middle high index : ℕ) → middle ≤ high → FirstPass low middle index → FirstPass low high index
  front_first low middle high index above first = (first.0, lt_of_lt_of_le first.1 above, first.2, first.3)

  -- Where none of the front part passes, the first of the back part is the first of the range.
  pub back_first : (low middle high index : ℕ) → low ≤ middle → NonePass low middle → FirstPass middle high index → FirstPass low high index
  back_first low middle high index below none first = (
    le_trans below first.0,
    first.1,
    first.2,
    λ i other from to. ⊎_elim (λ left. none i other from left) (λ right. first.3 i other right to) (cases_lt i middle),
  )
