-- Loop variables as pairs.
use Rattle.std.specs.Prelude.{ℕ, ℤ, List, [], map, Option, Some, None}
use Rattle.std.specs.declared.sync.Arc.{Arc}
use Rattle.std.specs.Arc.{arc_value}
use Rattle.array_meaning.specs.Stores.{Vars}
use Rattle.array_eval.specs.declared.vars.Binding.{Binding}

-- The name and the value of a variable.
abbrev pub pair_of : Binding → List ℕ × ℤ
pair_of binding = (binding.name, binding.value)

-- The pairs of the variables.
abbrev pub pairs_of : List Binding → Vars
pairs_of bindings = map pair_of bindings

-- The elements behind a pointer; none if there is no pointer.
abbrev pub kept_in : {X V Z : Type 0} → (V → List X) → Option (Arc V Z) → List X
kept_in items None = []
kept_in items (Some kept) = items (arc_value kept)
