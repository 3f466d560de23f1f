-- Writes that lie below a cell.
use Rattle.std.proofs.Common.{ℕ, zero, suc, ◌<◌, Bool, true, false, cond, List, [], ◌∷◌, ℤ, nat_eq, nat_lt, arith}
use Rattle.std.specs.Prelude.{All}
use Rattle.std.proofs.lemmas.List.Elements.{All-nil, All-cons}
use Rattle.array_meaning.specs.Stores.{Write}
use Rattle.array_meaning.specs.Pieces.{lay, lays}

-- Each write is to a cell below this one.
abbrev pub AreBelow : ℕ → List Write → Type 0
AreBelow n [] = Unit {0}
AreBelow n (w ∷ ws) = (w.0 < n) × AreBelow n ws

pub below_of : (n : ℕ) (ws : List Write) → All (λ w. w.0 < n) ws → AreBelow n ws
below_of n [] all = tt
below_of n (w ∷ ws) all = (all zero w (omega arith), below_of n ws (λ k d h. all (suc k) d (omega (arith, h))))

pub all_of : (n : ℕ) (ws : List Write) → AreBelow n ws → All (λ w. w.0 < n) ws
all_of n [] h = All-nil (λ w. w.0 < n)
all_of n (w ∷ ws) h = All-cons (λ w. w.0 < n) w ws h.0 (all_of n ws h.1)

below_lay : (n cell : ℕ) (v : ℤ) (ws : List Write) → cell < n → AreBelow n ws → AreBelow n (lay cell v ws)
below_lay n cell v [] lt h = (lt, tt)
below_lay n cell v (w ∷ ws) lt h = cases (nat_lt cell w.0) (nat_eq cell w.0) (below_lay n cell v ws lt h.1)
  where
    cases : (a b : Bool) → AreBelow n (lay cell v ws) → AreBelow n (cond a ((cell, v) ∷ w ∷ ws) (cond b ((cell, v) ∷ ws) (w ∷ lay cell v ws)))
    cases true b rest = (lt, h)
    cases false true rest = (lt, h.1)
    cases false false rest = (h.0, rest)

pub below_lays : (n : ℕ) (ws laid : List Write) → AreBelow n ws → AreBelow n laid → AreBelow n (lays ws laid)
below_lays n [] laid h k = k
below_lays n (w ∷ ws) laid h k = below_lays n ws (lay w.0 w.1 laid) h.1 (below_lay n w.0 w.1 laid h.0 k)
