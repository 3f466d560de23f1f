-- The first iteration of a member.
use Rattle.std.proofs.Common.{◌≡◌, ℕ, ◌*◌, ◌/◌, ◌<◌, ◌≤◌, arith}
use Rattle.std.proofs.Math.Nat.{mul-div_cancel, div-mul-le_self, mul-le-mul_left}
use Rattle.std.proofs.lemmas.Nat.{le-div}
use Rattle.array_meaning.specs.Members.{first_of}

pub first_within : (n m j : ℕ) → 0 < m → j ≤ m → first_of n m j ≤ n
first_within n m j some h =
    let most = mul-le-mul_left n h in
    let part = div-mul-le_self (n * j) m in
    let below : n * j / m * m ≤ n * m = omega arith in
    let whole : n * m / m ≡ n = mul-div_cancel n some in
    let le = le-div (n * j / m) (n * m) m some below in
    omega arith
