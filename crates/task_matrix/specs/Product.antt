-- The definition of a matrix product.
use Rattle.std.specs.Prelude.{◌≡◌, ℕ, zero, suc, ◌+◌, ◌*◌, ◌%◌, ◌^◌, List, Vec, length, slice_index}
use Rattle.std.specs.List.{AllZip}

-- The sum over each k below n of the k-th number of one list times the k-th number of the other.
abbrev pub dot : ℕ → List ℕ → List ℕ → ℕ
dot zero xs ys = 0
dot (suc n) xs ys = dot n xs ys + slice_index xs n * slice_index ys n

-- Each number of a row of the product is, modulo 2^64, the row of the first matrix times one column of the second, in order.
abbrev pub IsProductRow : {A : Type 0} → List (Vec ℕ A) → Vec ℕ A → Vec ℕ A → Type 0
IsProductRow columns row output =
    AllZip (λ column number. number ≡ dot (length row.items) row.items column.items % 2 ^ 64) columns output.items
