-- The loop variables around a position in a program, each with bounds.
use Rattle.std.specs.Prelude.{◌≡◌, ℕ, pos, List, [], ◌∷◌, map, cond}
use Rattle.array_tree.specs.Trees.{Expression}
use Rattle.array_tree.specs.Equal.{name_eq}
use Rattle.array_meaning.specs.Stores.{Arrays, Vars, Store, value_of}
use Rattle.array_eval.specs.Views.{vars_of}
use Rattle.touch_bounds.specs.declared.interval.Interval.{Interval}
use Rattle.touch_bounds.specs.declared.ranges.Ranges.{Ranges, Fixed, Loop'}
use Rattle.touch_bounds.specs.Intervals.{LiesIn, exactly}

-- The bounds of each loop variable around, the innermost first.
abbrev pub Bounds : Type 0
Bounds = List (List ℕ × Interval)

-- The bounds with which the variables have exactly these values.
abbrev pub fixed : Vars → Bounds
fixed vars = map (λ v. (v.0, exactly v.1)) vars

-- The bounds of the loops around, and of the fixed variables.
abbrev pub bounds_of : Ranges → Bounds
bounds_of (Fixed scope) = fixed (vars_of scope.now)
bounds_of (Loop' name within place outer) = (name.now, within) ∷ bounds_of outer

-- The variables have these bounds, and each value lies between its own.
abbrev pub AreWithin : Bounds → Vars → Type 0
AreWithin [] [] = Unit {0}
AreWithin [] (v ∷ more) = ⊥
AreWithin (b ∷ rest) [] = ⊥
AreWithin (b ∷ rest) (v ∷ more) = (v.0 ≡ b.0) × LiesIn b.1 v.1 × AreWithin rest more

-- The bounds of the variable of the innermost loop with the name.
abbrev pub interval_of : Bounds → List ℕ → Interval
interval_of [] name = exactly (pos 0)
interval_of (b ∷ more) name = cond (name_eq b.0 name) b.1 (interval_of more name)

-- For any arrays and store, and any values of the variables between their bounds, the value of the expression lies between the
-- reported bounds.
abbrev pub IsNoted : Bounds → Expression → Interval → Type 0
IsNoted bounds expr noted = (arrays : Arrays) (vars : Vars) (store : Store) → AreWithin bounds vars
    → LiesIn noted (value_of arrays vars expr store)
