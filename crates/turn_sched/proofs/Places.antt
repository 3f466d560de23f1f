-- A loop finds the place of a child.
use Rattle.std.proofs.Common.{◌≡◌, ℕ, zero, suc, ◌+◌, ◌<◌, min, List, [], ◌∷◌, ◌++◌, length, get_or, set, take, drop, ap, sym, arith, eq-eqb}
use Rattle.turn_sched.specs.declared.ring.Place.{Place}
use Rattle.turn_sched.specs.Ring.{with_more}

-- The wishes go to the first place of the child.
pub more_at : (child count at wishes : ℕ) (ps : List Place) (p : Place) → at < length ps → p ≡ get_or ps at p → p.child ≡ child → wishes ≡ min (p.wishes + count) 255 →
    set ps at record { child = child; wishes = wishes } ≡ take at ps ++ with_more child count (drop at ps)
more_at child count at wishes [] p low is of more = absurd (omega arith)
more_at child count zero wishes (q ∷ ps) p low is of more =
    rw (sym is, eq-eqb p.child child of) (λ i. record { child = sym of i; wishes = more i } ∷ ps)
more_at child count (suc at) wishes (q ∷ ps) p low is of more = ap (λ (qs : List Place). q ∷ qs) (more_at child count at wishes ps p (omega arith) is of more)
