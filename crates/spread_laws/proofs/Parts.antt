-- Parts of two programs side by side lead from related stores to related stores and enter the same sites. One lemma shows
-- both, since a part is its steps together with the sites that it enters.
use Rattle.std.proofs.Common.{◌≡◌, ℕ, zero, suc, ◌<◌, Bool, true, false, cond, [], ◌∷◌, ◌++◌, replicate, ℤ, pos, ◌+ℤ◌, refl, sym, ap, ◌∙◌, subst, arith}
use Rattle.std.proofs.lemmas.Int.{ints}
use Rattle.array_tree.specs.Trees.{Expression}
use Rattle.array_meaning.specs.Values.{holds}
use Rattle.array_meaning.specs.Stores.{Arrays, Vars, Store, value_of}
use Rattle.array_meaning.specs.Steps.{Steps, Done, Choose, followed_by, exec}
use Rattle.array_meaning.specs.Work.{turns}
use Rattle.array_meaning.specs.Entered.{Part, entered_then, turns_entered}
use Rattle.spread_laws.proofs.Keeps.{Keep, done_keep, then_keep, choice_keep}

-- Steps without a site.
abbrev pub plain_part : Steps → Part
plain_part steps = (steps, λ store. [])

abbrev pub then_part : Arrays → Part → Part → Part
then_part arrays p q = (followed_by p.0 q.0, entered_then arrays p q.1)

abbrev pub turns_part : Arrays → (ℤ → Part) → ℤ → ℕ → Part
turns_part arrays f low n = (turns (λ x. (f x).0) low n, turns_entered arrays f low n)

-- A choice between two sides with m and n sites.
abbrev pub choice_part : Arrays → ℕ → Vars → Expression → Part → Part → ℕ → ℕ → Part
choice_part arrays line vars test p q m n = (
  Choose line vars test p.0 q.0 Done,
  λ store. cond (holds (value_of arrays vars test store)) (p.1 store ++ replicate n false) (replicate m false ++ q.1 store),
)

-- A construct is a site.
abbrev pub site_part : Part → Part
site_part p = (p.0, λ store. true ∷ p.1 store)

module _ (old new : Arrays) (R : Store → Store → Type 0) where
  pub record Mirror (p q : Part) : Type 0 where
    pub keeps : Keep old new R p.0 q.0
    pub enters : (s t : Store) → R s t → p.1 s ≡ q.1 t

  pub plain_mirror : (a b : Steps) → Keep old new R a b → Mirror (plain_part a) (plain_part b)
  plain_mirror a b keeps = record { keeps = keeps; enters = λ s t r. refl }

  pub site_mirror : (p q : Part) → Mirror p q → Mirror (site_part p) (site_part q)
  site_mirror p q m = record { keeps = m.keeps; enters = λ s t r. ap (λ e. true ∷ e) (m.enters s t r) }

  pub then_mirror : (p p' q q' : Part) → Mirror p q → Mirror p' q' → Mirror (then_part old p p') (then_part new q q')
  then_mirror p p' q q' first next = record {
    keeps = then_keep old new R p.0 p'.0 q.0 q'.0 first.keeps next.keeps;
    enters = λ s t r. ap (λ e. e ++ p'.1 (exec old p.0 s)) (first.enters s t r)
        ∙ ap (λ e. q.1 t ++ e) (next.enters (exec old p.0 s) (exec new q.0 t) (first.keeps s t r));
  }

  pub choice_mirror : (line : ℕ) (vars : Vars) (test : Expression) (p p' q q' : Part) (m m' n n' : ℕ) → m' ≡ m → n' ≡ n
      → ((s t : Store) → R s t → value_of new vars test t ≡ value_of old vars test s)
      → Mirror p q → Mirror p' q' → Mirror (choice_part old line vars test p p' m n) (choice_part new line vars test q q' m' n')
  choice_mirror line vars test p p' q q' m m' n n' left_sites right_sites same left right = record {
    keeps = choice_keep old new R line vars vars test test p.0 p'.0 q.0 q'.0 same left.keeps right.keeps;
    enters = λ s t r. sides s t r (holds (value_of old vars test s))
        ∙ ap (λ (v : ℤ). cond (holds v) (q.1 t ++ replicate n' false) (replicate m' false ++ q'.1 t)) (sym (same s t r));
  }
    where
      sides : (s t : Store) → R s t → (b : Bool)
          → cond b (p.1 s ++ replicate n false) (replicate m false ++ p'.1 s) ≡ cond b (q.1 t ++ replicate n' false) (replicate m' false ++ q'.1 t)
      sides s t r true = ap (λ e. e ++ replicate n false) (left.enters s t r) ∙ ap (λ (k : ℕ). q.1 t ++ replicate k false) (sym right_sites)
      sides s t r false = ap (λ (k : ℕ). replicate k false ++ p'.1 s) (sym left_sites) ∙ ap (λ e. replicate m' false ++ e) (right.enters s t r)

  pub turns_mirror : (f g : ℤ → Part) (low : ℤ) (n : ℕ) → ((i : ℕ) → i < n → Mirror (f (low +ℤ pos i)) (g (low +ℤ pos i)))
      → Mirror (turns_part old f low n) (turns_part new g low n)
  turns_mirror f g low zero each = plain_mirror Done Done (done_keep old new R)
  turns_mirror f g low (suc n) each =
      let none : low +ℤ pos 0 ≡ low = omega (arith, ints) in
      then_mirror (f low) (turns_part old f (low +ℤ pos 1) n) (g low) (turns_part new g (low +ℤ pos 1) n)
      (subst (λ x. Mirror (f x) (g x)) none (each 0 (omega arith)))
      (turns_mirror f g (low +ℤ pos 1) n (λ i lt.
      let next : low +ℤ pos (suc i) ≡ low +ℤ pos 1 +ℤ pos i = omega (arith, ints) in
      subst (λ x. Mirror (f x) (g x)) next (each (suc i) (omega arith))))

  -- A part may be replaced by one that does and enters the same.
  pub same_mirror : (p q q' : Part) → q'.0 ≡ q.0 → ((t : Store) → q'.1 t ≡ q.1 t) → Mirror p q → Mirror p q'
  same_mirror p q q' steps entering m = record {
    keeps = subst (Keep old new R p.0) (sym steps) m.keeps;
    enters = λ s t r. m.enters s t r ∙ sym (entering t);
  }
