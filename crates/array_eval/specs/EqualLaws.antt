-- `==` of stores and of loop variables is equality.
use Rattle.std.proofs.Common.{◌≡◌, ℕ, ℤ, List, refl, ap, ◌∙◌}
use Rattle.std.specs.Bool.{Decides}
use Rattle.std.specs.Ordering.{int_eq}
use Rattle.std.proofs.lemmas.Bool.Decides.{Decides-and, Decides-eqb, Decides-int_eq}
use Rattle.std.proofs.lemmas.Slice.Eq.{slice_eq-Decides}
use Rattle.array_tree.specs.Equal.{name_eq}
use Rattle.array_meaning.specs.Stores.{Store, Vars}
use Rattle.array_eval.specs.Equal.{store_eq, binding_eq, vars_eq}

-- The test decides whether two stores are equal.
pub store_decides : (a b : Store) → Decides (store_eq a b) (a ≡ b)
store_decides a b = slice_eq-Decides Decides-int_eq a b (store_eq a b) refl

-- The test decides whether two names are equal.
pub name_decides : (a b : List ℕ) → Decides (name_eq a b) (a ≡ b)
name_decides a b = slice_eq-Decides Decides-eqb a b (name_eq a b) refl

-- A name with a value, as a pair.
abbrev pair : List ℕ → ℤ → List ℕ × ℤ
pair name value = (name, value)

-- The test decides whether two variables have the same name and value.
pub binding_decides : (a b : List ℕ × ℤ) → Decides (binding_eq a b) (a ≡ b)
binding_decides a b =
    let d = Decides-and (name_eq a.0 b.0) (int_eq a.1 b.1) (name_decides a.0 b.0) (Decides-int_eq a.1 b.1) in
    (λ e. ap (λ name. pair name a.1) (d.0 e).0 ∙ ap (pair b.0) (d.0 e).1, λ e. d.1 (ap (λ p. p.0) e, ap (λ p. p.1) e))

-- The test decides whether two lists of variables are equal.
pub vars_decides : (a b : Vars) → Decides (vars_eq a b) (a ≡ b)
vars_decides a b = slice_eq-Decides binding_decides a b (vars_eq a b) refl
