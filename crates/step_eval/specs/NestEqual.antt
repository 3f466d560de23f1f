-- `==` of constructs that are handed out, and the proof that it is equality.
use Rattle.std.proofs.Common.{◌≡◌, ℕ, List, true, refl}
use Rattle.std.specs.Bool.{Decides}
use Rattle.std.specs.Prelude.{Bool, ◌&&◌, nat_eq}
use Rattle.std.proofs.lemmas.Bool.Decides.{Decides-and, Decides-eqb}
use Rattle.array_tree.specs.Trees.{Statement, Declaration}
use Rattle.array_tree.specs.Equal.{statement_eq, declarations_eq}
use Rattle.array_tree.specs.EqualLaws.{statement_decided, declarations_decided}
use Rattle.array_meaning.specs.Stores.{Store, Vars}
use Rattle.array_eval.specs.Equal.{store_eq, vars_eq}
use Rattle.array_eval.specs.EqualLaws.{store_decides, vars_decides}
use Rattle.step_eval.specs.Nests.{NestedTree}

-- The test compares two constructs part by part.
abbrev pub nested_eq : NestedTree → NestedTree → Bool
nested_eq a b =
    nat_eq a.site b.site && (vars_eq a.vars b.vars && (store_eq a.store b.store
    && (statement_eq a.construct b.construct && declarations_eq a.arrays b.arrays)))

-- The construct with these parts.
abbrev made : ℕ → Vars → Store → Statement → List Declaration → NestedTree
made site vars store construct arrays = record {
  arrays = arrays;
  site = site;
  construct = construct;
  vars = vars;
  store = store;
}

parts_decide : (a b : NestedTree) → Decides (nested_eq a b)
    ((a.site ≡ b.site) × ((a.vars ≡ b.vars) × ((a.store ≡ b.store) × ((a.construct ≡ b.construct) × (a.arrays ≡ b.arrays)))))
parts_decide a b =
    Decides-and _ _ (Decides-eqb a.site b.site) (Decides-and _ _ (vars_decides a.vars b.vars) (Decides-and _ _ (store_decides a.store b.store)
    (Decides-and _ _ (statement_decided a.construct b.construct (statement_eq a.construct b.construct) refl)
    (declarations_decided a.arrays b.arrays (declarations_eq a.arrays b.arrays) refl))))

-- Constructs that pass the test are equal.
pub nested_same : (a b : NestedTree) → nested_eq a b ≡ true → a ≡ b
nested_same a b h =
    let e = (parts_decide a b).0 h in
    let same : made a.site a.vars a.store a.construct a.arrays ≡ made b.site b.vars b.store b.construct b.arrays
    = rw (e.0, e.1.0, e.1.1.0, e.1.1.1.0, e.1.1.1.1) refl in
    same

-- Each construct passes the test with itself.
pub nested_refl : (a : NestedTree) → nested_eq a a ≡ true
nested_refl a = (parts_decide a a).1 (refl, (refl, (refl, (refl, refl))))

-- The test decides whether two constructs are equal.
pub nested_decides : (a b : NestedTree) → Decides (nested_eq a b) (a ≡ b)
nested_decides a b = (λ h. nested_same a b h, λ e. rw e (nested_refl b))
