-- Variables between bounds.
use Rattle.std.proofs.Common.{◌≡◌, ℕ, ℤ, pos, List, [], ◌∷◌, Bool, true, false, cond, refl, sym, subst}
use Rattle.std.specs.Int.Signed.{≤ℤ_refl}
use Rattle.array_tree.specs.Equal.{name_eq}
use Rattle.array_meaning.specs.Stores.{Vars, var_of}
use Rattle.touch_bounds.specs.Intervals.{LiesIn, exactly}
use Rattle.touch_bounds.specs.Ranges.{Bounds, fixed, AreWithin, interval_of}

pub lies_exactly : (x : ℤ) → LiesIn (exactly x) x
lies_exactly x = record { low = ≤ℤ_refl x; high = ≤ℤ_refl x }

-- Variables with fixed values lie within them.
pub fixed_within : (vars : Vars) → AreWithin (fixed vars) vars
fixed_within [] = tt
fixed_within (v ∷ vars) = (refl, lies_exactly v.1, fixed_within vars)

pub fixed_interval : (vars : Vars) (name : List ℕ) → interval_of (fixed vars) name ≡ exactly (var_of vars name)
fixed_interval [] name = refl
fixed_interval (v ∷ vars) name = cases (name_eq v.0 name) (fixed_interval vars name)
  where
    cases : (b : Bool) → interval_of (fixed vars) name ≡ exactly (var_of vars name) → cond b (exactly v.1) (interval_of (fixed vars) name) ≡ exactly (cond b v.1 (var_of vars name))
    cases true rest = refl
    cases false rest = rest

-- The value of a variable lies within its bounds.
pub var_within : (bounds : Bounds) (vars : Vars) (name : List ℕ) → AreWithin bounds vars → LiesIn (interval_of bounds name) (var_of vars name)
var_within [] [] name h = lies_exactly (pos 0)
var_within [] (v ∷ vars) name h = absurd h
var_within (b ∷ bounds) [] name h = absurd h
var_within (b ∷ bounds) (v ∷ vars) name h =
    subst (λ n. LiesIn (cond (name_eq b.0 name) b.1 (interval_of bounds name)) (cond (name_eq n name) v.1 (var_of vars name))) (sym h.0)
    (cases (name_eq b.0 name) (var_within bounds vars name h.2))
  where
    cases : (c : Bool) → LiesIn (interval_of bounds name) (var_of vars name) → LiesIn (cond c b.1 (interval_of bounds name)) (cond c v.1 (var_of vars name))
    cases true rest = h.1
    cases false rest = rest
