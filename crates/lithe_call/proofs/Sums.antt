-- A sum that wraps at each step.
use Rattle.std.proofs.Common.{◌≡◌, ◌+◌, ◌<◌, ◌∙◌, ℕ, ℤ, pos, ◌+ℤ◌, List, [], ◌∷◌, length, drop, sym, ap}
use Rattle.std.specs.Int.{int_wrap, w64}
use Rattle.std.proofs.Math.IntN.{+ℤ_assoc}
use Rattle.std.proofs.lemmas.Int.{int_wrap-add_left}
use Rattle.std.proofs.lemmas.List.{drop_more}
use Rattle.array_meaning.specs.Stores.{Store, at_cell}
use Rattle.lithe_call.specs.Summary.{whole_sum}

-- The sum so far with the cells from one on.
abbrev pub with_rest : ℤ → ℕ → Store → ℤ
with_rest sum cell store = int_wrap w64 (sum +ℤ whole_sum (drop cell store))

pub sum_more : (sum : ℤ) (cell : ℕ) (store : Store) → cell < length store
    → with_rest (int_wrap w64 (sum +ℤ at_cell store cell)) (cell + 1) store ≡ with_rest sum cell store
sum_more sum cell store inside =
    let value = at_cell store cell in
    let rest = whole_sum (drop (cell + 1) store) in
    let at : drop cell store ≡ value ∷ drop (cell + 1) store = drop_more store cell (pos 0) inside in
    int_wrap-add_left w64 (sum +ℤ value) rest
    ∙ ap (int_wrap w64) (+ℤ_assoc sum value rest ∙ ap (λ (cells : Store). sum +ℤ whole_sum cells) (sym at))
