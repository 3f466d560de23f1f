-- What steps write depends on what they read, and lies within what they change.
use Rattle.std.proofs.Common.{◌≡◌, ℕ, zero, suc, ◌<◌, Bool, true, false, cond, List, [], ◌∷◌, ◌++◌, length, Some, None, ℤ, pos, negsuc, refl, sym, ap, ◌∙◌, subst, set, ◌⊎◌, inl, inr, ⊎_elim, arith, append_assoc, length-set, get_or-set_other}
use Rattle.std.proofs.lemmas.Bool.{false≢true}
use Rattle.std.specs.Prelude.{◌||◌, unsigned_abs, if◌then◌else◌}
use Rattle.std.specs.Int.{int_rem_euclid}
use Rattle.array_tree.specs.Trees.{Expression, Number, Var, Read, Neg, Binary}
use Rattle.array_meaning.specs.Values.{holds}
use Rattle.array_meaning.specs.Stores.{Arrays, Vars, Store, Write, after, is_dynamic, length_of, cell_of, value_of, at_cell}
use Rattle.array_meaning.specs.Steps.{Steps, Done, Set, Choose, followed_by, writes_of}
use Rattle.array_meaning.specs.Touch.{Visit, visit, reads_in, walk, Covers, Touches, reads_of, changes_of}
use Rattle.array_meaning.proofs.StepLemmas.{length_after}

-- ---- stores and writes

-- The cell is among those that were written.
abbrev pub IsWritten : List Write → ℕ → Type 0
IsWritten [] c = ⊥
IsWritten (w ∷ ws) c = (w.0 ≡ c) ⊎ IsWritten ws c

-- Two stores with equal values at a cell have equal values there after the same write.
pub same_set : (s t : Store) (c k : ℕ) (v : ℤ) → length s ≡ length t → at_cell s k ≡ at_cell t k → at_cell (set s c v) k ≡ at_cell (set t c v) k
same_set [] [] c k v len e = refl
same_set [] (y ∷ t) c k v len e = absurd (omega (arith, len))
same_set (x ∷ s) [] c k v len e = absurd (omega (arith, len))
same_set (x ∷ s) (y ∷ t) zero zero v len e = refl
same_set (x ∷ s) (y ∷ t) zero (suc k) v len e = e
same_set (x ∷ s) (y ∷ t) (suc c) zero v len e = e
same_set (x ∷ s) (y ∷ t) (suc c) (suc k) v len e = same_set s t c k v (omega (arith, len)) e

-- A write changes no other cell.
pub other_set : (s : Store) (c k : ℕ) (v : ℤ) → (c ≡ k → ⊥) → at_cell (set s c v) k ≡ at_cell s k
other_set s c k v ne = get_or-set_other s c k v (pos 0) (λ e. ne (sym e))

pub wrote_either : (a b : List Write) (c : ℕ) → IsWritten (a ++ b) c → IsWritten a c ⊎ IsWritten b c
wrote_either [] b c h = inr h
wrote_either (w ∷ a) b c (inl h) = inl (inl h)
wrote_either (w ∷ a) b c (inr h) = ⊎_elim (λ l. inl (inr l)) (λ r. inr r) (wrote_either a b c h)

pub wrote_cond : (d : Bool) (a b : List Write) (c : ℕ) → IsWritten (cond d a b) c → IsWritten a c ⊎ IsWritten b c
wrote_cond true a b c h = inl h
wrote_cond false a b c h = inr h

-- A cell that isn't written stays.
pub kept : (ws : List Write) (s : Store) (k : ℕ) → (IsWritten ws k → ⊥) → at_cell (after ws s) k ≡ at_cell s k
kept [] s k not = refl
kept (w ∷ ws) s k not = kept ws (set s w.0 w.1) k (λ h. not (inr h)) ∙ other_set s w.0 k w.1 (λ e. not (inl e))

-- The same writes leave equal values at a cell that had equal values.
pub same_after : (ws : List Write) (s t : Store) (k : ℕ) → length s ≡ length t → at_cell s k ≡ at_cell t k → at_cell (after ws s) k ≡ at_cell (after ws t) k
same_after [] s t k len e = e
same_after (w ∷ ws) s t k len e = same_after ws (set s w.0 w.1) (set t w.0 w.1) k (length-set s w.0 w.1 ∙ len ∙ sym (length-set t w.0 w.1)) (same_set s t w.0 k w.1 len e)

-- ---- what a walk touches

pub walk_followed_by : (arrays : Arrays) (a b : Steps) → walk arrays (followed_by a b) ≡ walk arrays a ++ walk arrays b
walk_followed_by arrays Done b = refl
walk_followed_by arrays (Set l vs n i e rest) b = rw (walk_followed_by arrays rest b, append_assoc, append_assoc) refl
walk_followed_by arrays (Choose l vs t left right rest) b = rw (walk_followed_by arrays rest b, append_assoc, append_assoc, append_assoc) refl

pub touched_left : (arrays : Arrays) (w : Bool) (xs ys : List Visit) (c : ℕ) → Touches arrays w xs c → Touches arrays w (xs ++ ys) c
touched_left arrays w [] ys c h = absurd h
touched_left arrays w (v ∷ vs) ys c (inl h) = inl h
touched_left arrays w (v ∷ vs) ys c (inr h) = inr (touched_left arrays w vs ys c h)

pub touched_right : (arrays : Arrays) (w : Bool) (xs ys : List Visit) (c : ℕ) → Touches arrays w ys c → Touches arrays w (xs ++ ys) c
touched_right arrays w [] ys c h = h
touched_right arrays w (v ∷ vs) ys c h = inr (touched_right arrays w vs ys c h)

pub touched_either : (arrays : Arrays) (w : Bool) (xs ys : List Visit) (c : ℕ) → Touches arrays w (xs ++ ys) c → Touches arrays w xs c ⊎ Touches arrays w ys c
touched_either arrays w [] ys c h = inr h
touched_either arrays w (v ∷ vs) ys c (inl h) = inl (inl h)
touched_either arrays w (v ∷ vs) ys c (inr h) = ⊎_elim (λ l. inl (inr l)) (λ r. inr r) (touched_either arrays w vs ys c h)

pub rem_small : (i : ℤ) (len : ℕ) → 0 < len → unsigned_abs (int_rem_euclid i (pos len)) < len
rem_small (pos a) len h = omega arith
rem_small (negsuc a) len h = omega arith

pub or_false : (a b : Bool) → (a || b) ≡ false → (a ≡ false) × (b ≡ false)
or_false true b e = absurd (false≢true (sym e))
or_false false b e = (refl, e)

-- ---- expressions

module _ (arrays : Arrays) (sizes : (name : List ℕ) → 0 < length_of arrays name) where
  -- An index that isn't dynamic needs no store.
  pub static_value : (vars : Vars) (e : Expression) (s t : Store) → is_dynamic e ≡ false → value_of arrays vars e s ≡ value_of arrays vars e t
  static_value vars (Number n) s t h = refl
  static_value vars (Var name) s t h = refl
  static_value vars (Read name e) s t h = absurd (false≢true (sym h))
  static_value vars (Neg e) s t h = rw (static_value vars e s t h)
  static_value vars (Binary op a b) s t h =
      let both = or_false (is_dynamic a) (is_dynamic b) h in
      rw (static_value vars a s t both.0, static_value vars b s t both.1)

  -- The cell of an index is one that its visit covers.
  pub covers : (vars : Vars) (name : List ℕ) (e : Expression) (s : Store) (d : Bool) → is_dynamic e ≡ d →
      Covers arrays name (if d then None else Some (value_of arrays vars e [])) (cell_of arrays name d (value_of arrays vars e s))
  covers vars name e s true h =
      let small = rem_small (value_of arrays vars e s) (length_of arrays name) (sizes name) in
      (omega arith, omega arith)
  covers vars name e s false h = ap (cell_of arrays name false) (static_value vars e s [] h)

  -- An expression's value depends on what it reads.
  pub value_same : (line : ℕ) (vars : Vars) (e : Expression) (s t : Store) → ((c : ℕ) → Touches arrays false (reads_in arrays line vars e) c → at_cell s c ≡ at_cell t c) →
      value_of arrays vars e s ≡ value_of arrays vars e t
  value_same line vars (Number n) s t agree = refl
  value_same line vars (Var name) s t agree = refl
  value_same line vars (Read name e) s t agree =
      let inner = value_same line vars e s t (λ c h. agree c (touched_left arrays false (reads_in arrays line vars e) _ c h)) in
      ap (λ i. at_cell s (cell_of arrays name (is_dynamic e) i)) inner
      ∙ agree _ (touched_right arrays false (reads_in arrays line vars e) (visit arrays line false vars name e ∷ []) _ (inl (refl, covers vars name e t (is_dynamic e) refl)))
  value_same line vars (Neg e) s t agree = rw (value_same line vars e s t agree)
  value_same line vars (Binary op a b) s t agree =
      let left = value_same line vars a s t (λ c h. agree c (touched_left arrays false (reads_in arrays line vars a) _ c h)) in
      let right = value_same line vars b s t (λ c h. agree c (touched_right arrays false (reads_in arrays line vars a) _ c h)) in
      rw (left, right)

  -- ---- steps

  -- What steps write depends on what they read.
  pub writes_same : (steps : Steps) (s t : Store) → length s ≡ length t → ((c : ℕ) → reads_of arrays steps c → at_cell s c ≡ at_cell t c) →
      writes_of arrays steps s ≡ writes_of arrays steps t
  writes_same Done s t len agree = refl
  writes_same (Set l vars name index e rest) s t len agree =
      let at_index = value_same l vars index s t (λ c h. agree c (touched_left arrays false (reads_in arrays l vars index) _ c h)) in
      let at_value = value_same l vars e s t (λ c h. agree c (touched_right arrays false (reads_in arrays l vars index) _ c (touched_left arrays false (reads_in arrays l vars e) _ c h))) in
      let k = cell_of arrays name (is_dynamic index) (value_of arrays vars index t) in
      let v = value_of arrays vars e t in
      let later : writes_of arrays rest (set s k v) ≡ writes_of arrays rest (set t k v)
      = writes_same rest (set s k v) (set t k v) (length-set s k v ∙ len ∙ sym (length-set t k v))
      (λ c h. same_set s t k c v len (agree c (touched_right arrays false (reads_in arrays l vars index) _ c (touched_right arrays false (reads_in arrays l vars e) _ c (inr h))))) in
      rw (at_index, at_value) (ap (λ ws. (k, v) ∷ ws) later)
  writes_same (Choose l vars test left right rest) s t len agree =
      let walked = reads_in arrays l vars test in
      let at_test = value_same l vars test s t (λ c h. agree c (touched_left arrays false walked _ c h)) in
      let at_left = writes_same left s t len (λ c h. agree c (touched_right arrays false walked _ c (touched_left arrays false (walk arrays left) _ c h))) in
      let at_right = writes_same right s t len (λ c h. agree c (touched_right arrays false walked _ c (touched_right arrays false (walk arrays left) _ c (touched_left arrays false (walk arrays right) _ c h)))) in
      let ws = cond (holds (value_of arrays vars test t)) (writes_of arrays left t) (writes_of arrays right t) in
      let later : writes_of arrays rest (after ws s) ≡ writes_of arrays rest (after ws t)
      = writes_same rest (after ws s) (after ws t) (length_after ws s ∙ len ∙ sym (length_after ws t))
      (λ c h. same_after ws s t c len (agree c (touched_right arrays false walked _ c (touched_right arrays false (walk arrays left) _ c (touched_right arrays false (walk arrays right) _ c h))))) in
      rw (at_test, at_left, at_right) (ap (λ x. ws ++ x) later)

  -- What steps write lies within what they change.
  pub writes_within : (steps : Steps) (s : Store) (c : ℕ) → IsWritten (writes_of arrays steps s) c → changes_of arrays steps c
  writes_within Done s c h = absurd h
  writes_within (Set l vars name index e rest) s c (inl same) =
      touched_right arrays true (reads_in arrays l vars index) _ c (touched_right arrays true (reads_in arrays l vars e) _ c
      (inl (refl, subst (Covers arrays name _) same (covers vars name index s (is_dynamic index) refl))))
  writes_within (Set l vars name index e rest) s c (inr h) =
      touched_right arrays true (reads_in arrays l vars index) _ c (touched_right arrays true (reads_in arrays l vars e) _ c
      (inr (writes_within rest _ c h)))
  writes_within (Choose l vars test left right rest) s c h =
      let walked = reads_in arrays l vars test in
      ⊎_elim
      (λ now. touched_right arrays true walked _ c (⊎_elim
      (λ x. touched_left arrays true (walk arrays left) _ c (writes_within left s c x))
      (λ y. touched_right arrays true (walk arrays left) _ c (touched_left arrays true (walk arrays right) _ c (writes_within right s c y)))
      (wrote_cond (holds (value_of arrays vars test s)) (writes_of arrays left s) (writes_of arrays right s) c now)))
      (λ later. touched_right arrays true walked _ c (touched_right arrays true (walk arrays left) _ c (touched_right arrays true (walk arrays right) _ c (writes_within rest _ c later))))
      (wrote_either (cond (holds (value_of arrays vars test s)) (writes_of arrays left s) (writes_of arrays right s)) _ c h)
