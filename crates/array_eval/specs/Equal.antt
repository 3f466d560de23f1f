-- `==` of stores and of loop variables.
use Rattle.std.specs.Prelude.{ℕ, ℤ, List, Bool, ◌&&◌}
use Rattle.std.specs.Ordering.{int_eq}
use Rattle.std.specs.Cmp.Lexicographic.{pointwise}
use Rattle.array_tree.specs.Equal.{name_eq}
use Rattle.array_meaning.specs.Stores.{Store, Vars}

-- The test compares two stores cell by cell.
abbrev pub store_eq : Store → Store → Bool
store_eq a b = pointwise int_eq a b

-- A name with its value.
abbrev pub binding_eq : List ℕ × ℤ → List ℕ × ℤ → Bool
binding_eq a b = name_eq a.0 b.0 && int_eq a.1 b.1

-- The test compares variables by name and value, in their order.
abbrev pub vars_eq : Vars → Vars → Bool
vars_eq a b = pointwise binding_eq a b
