-- The value of a variable, by a search that may find none; and variables in sequence.
use Rattle.std.proofs.Common.{◌≡◌, ℕ, ◌+◌, ◌<◌, Bool, true, false, cond, List, [], ◌∷◌, ◌++◌, map, length, take, reverse, get_or, Some, None, ℤ, pos, refl, ap, ◌∙◌}
use Rattle.std.specs.Option.{unwrap_or}
use Rattle.std.proofs.lemmas.List.{take_more, map-append, reverse-append}
use Rattle.array_tree.specs.Equal.{name_eq}
use Rattle.array_meaning.specs.Stores.{Vars, var_of}
use Rattle.array_eval.specs.declared.scope.LoopVar.{LoopVar}
use Rattle.array_eval.specs.Overlays.{bound_to}
use Rattle.array_eval.specs.Views.{loop_var, stacked}

-- The value of a variable is the value found, or 0 if nothing is found.
pub bound_or_zero : (vars : Vars) (name : List ℕ) → unwrap_or (bound_to vars name) (pos 0) ≡ var_of vars name
bound_or_zero [] name = refl
bound_or_zero (v ∷ more) name = cases (name_eq v.0 name) (bound_or_zero more name)
  where
    cases : (b : Bool) → unwrap_or (bound_to more name) (pos 0) ≡ var_of more name → unwrap_or (cond b (Some v.1) (bound_to more name)) (pos 0) ≡ cond b v.1 (var_of more name)
    cases true e = refl
    cases false e = e

-- A value found among the inner variables is the variable's value.
pub bound_inside : (inner outer : Vars) (name : List ℕ) (x : ℤ) → bound_to inner name ≡ Some x → x ≡ var_of (inner ++ outer) name
bound_inside [] outer name x e = cc
bound_inside (v ∷ more) outer name x e = cases (name_eq v.0 name) (bound_inside more outer name x) e
  where
    cases : (b : Bool) → (bound_to more name ≡ Some x → x ≡ var_of (more ++ outer) name) →
        cond b (Some v.1) (bound_to more name) ≡ Some x → x ≡ cond b v.1 (var_of (more ++ outer) name)
    cases true ih e = cc
    cases false ih e = ih e

-- If nothing is found among the inner variables, the value is that of the outer ones.
pub bound_outside : (inner outer : Vars) (name : List ℕ) → bound_to inner name ≡ None → var_of outer name ≡ var_of (inner ++ outer) name
bound_outside [] outer name e = refl
bound_outside (v ∷ more) outer name e = cases (name_eq v.0 name) (bound_outside more outer name) e
  where
    cases : (b : Bool) → (bound_to more name ≡ None → var_of outer name ≡ var_of (more ++ outer) name) →
        cond b (Some v.1) (bound_to more name) ≡ None → var_of outer name ≡ cond b v.1 (var_of (more ++ outer) name)
    cases true ih e = cc
    cases false ih e = ih e

-- The last of the variables is the innermost.
pub stacked_push : (vars : List LoopVar) (v : LoopVar) → stacked (vars ++ v ∷ []) ≡ loop_var v ∷ stacked vars
stacked_push vars v = ap reverse (map-append loop_var vars (v ∷ [])) ∙ reverse-append (map loop_var vars) (loop_var v ∷ [])

pub stacked_more : (vars : List LoopVar) (n : ℕ) (d : LoopVar) → n < length vars → stacked (take (n + 1) vars) ≡ loop_var (get_or vars n d) ∷ stacked (take n vars)
stacked_more vars n d h = ap stacked (take_more vars n d h) ∙ stacked_push (take n vars) (get_or vars n d)
