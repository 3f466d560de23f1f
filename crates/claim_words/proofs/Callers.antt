-- Facts for a caller that has all seats of a table.
use Rattle.std.proofs.Common.{◌≡◌, ◌<◌, ℕ, suc, zero, List, [], ◌∷◌, map, length, get_or, set, arith, refl}
use Rattle.std.proofs.Math.Seq.{map-set_same}
use Rattle.claim_words.specs.declared.seat.ClaimSeat.{ClaimSeat}
use Rattle.claim_words.specs.declared.table.ClaimTable.{ClaimTable}
use Rattle.claim_words.specs.Seats.{identity, IsOf, AreOf}

-- Each seat is of the table.
pub each_of : (t : ClaimTable) (seats : List ClaimSeat) → AreOf t (map identity seats) → (h : ℕ) (d : ClaimSeat) → h < length seats → IsOf t (identity (get_or seats h d))
each_of t [] are h d there = absurd (omega (arith, there))
each_of t (s ∷ seats) are zero d there = are.0
each_of t (s ∷ seats) are (suc h) d there = each_of t seats are.1 h d (omega (arith, there))

-- One seat changes, or each seat does, and no identity changes.
pub one_moved : (seats : List ClaimSeat) (h : ℕ) (y d : ClaimSeat) → identity y ≡ identity (get_or seats h d) → map identity (set seats h y) ≡ map identity seats
one_moved seats h y d same = map-set_same identity seats h y d same

pub each_moved : (old new : List ClaimSeat) → length new ≡ length old → ((h : ℕ) (d : ClaimSeat) → h < length old → identity (get_or new h d) ≡ identity (get_or old h d)) → map identity new ≡ map identity old
each_moved [] [] count same = refl
each_moved [] (y ∷ new) count same = absurd (omega (arith, count))
each_moved (x ∷ old) [] count same = absurd (omega (arith, count))
each_moved (x ∷ old) (y ∷ new) count same = λ i. same 0 x (omega arith) i ∷ each_moved old new (omega (arith, count)) (λ h d below. same (suc h) d (omega (arith, below))) i
