-- The models of the evaluator's values.
use Rattle.std.specs.Prelude.{ℕ, ℤ, List, [], ◌∷◌, ◌++◌, map, reverse}
use Rattle.array_eval.specs.declared.scope.LoopVar.{LoopVar}
use Rattle.array_eval.specs.declared.scope.Scope.{Scope, Outermost, Kept, Turn', Stack'}
use Rattle.array_meaning.specs.Stores.{Vars}

-- The name and the value of a variable.
abbrev pub loop_var : LoopVar → List ℕ × ℤ
loop_var v = (v.name.now, v.value)

-- The variables of a stack, the innermost last.
abbrev pub stacked : List LoopVar → Vars
stacked vars = reverse (map loop_var vars)

-- The loop variables of a scope, the innermost first.
abbrev pub vars_of : Scope → Vars
vars_of Outermost = []
vars_of (Kept vars) = vars.now
vars_of (Turn' name value place outer) = (name.now, value) ∷ vars_of outer
vars_of (Stack' vars place outer) = stacked vars.now ++ vars_of outer
