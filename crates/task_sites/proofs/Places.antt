-- Tasks at their places, and their outcomes.
use Rattle.std.proofs.Common.{◌≡◌, ◌≤◌, ◌+◌, ◌++◌, ◌⊎◌, ℕ, zero, suc, List, [], ◌∷◌, All, take, sym, ap, subst, arith, length, inl, inr, ⊎_elim}
use Rattle.std.specs.List.{AllZip}
use Rattle.std.proofs.lemmas.List.Elements.{All-head, All-tail}
use mathlib.Core.Option.{some, some-injective, some-ne-none}
use lib.ListN.{get_elem?}
use Rattle.tasks.specs.Failures.{FirstFailure}
use Rattle.task_sites.specs.Collected.{FirstError}

-- What holds of all tasks holds of the one at a place.
pub at_place : {T : Type 0} (P : T → Type 0) (tasks : List T) (i : ℕ) (task : T) → get_elem? tasks i ≡ some task → All P tasks → P task
at_place P [] i t e h = absurd (some-ne-none t (sym e))
at_place P (x ∷ xs) zero t e h = subst P (some-injective x t e) (All-head P x xs h)
at_place P (x ∷ xs) (suc i) t e h = at_place P xs i t e (All-tail P x xs h)

-- The tasks before a place, the task there, and the others.
around : {T : Type 0} (tasks : List T) (i : ℕ) (task : T) → get_elem? tasks i ≡ some task → (rest : List T) × (tasks ≡ take i tasks ++ task ∷ rest)
around [] i t e = absurd (some-ne-none t (sym e))
around (x ∷ xs) zero t e = (xs, ap (λ y. y ∷ xs) (some-injective x t e))
around (x ∷ xs) (suc i) t e = let k = around xs i t e in (k.0, ap (λ ys. x ∷ ys) k.1)

module _ {T O : Type 0} (R : T → O → Type 0) where
  -- The outputs up to one place more.
  more_suc : (tasks : List T) (i : ℕ) (task : T) (outputs : List O) (output : O) → get_elem? tasks i ≡ some task → R task output
      → AllZip R (take i tasks) outputs → AllZip R (take (suc i) tasks) (outputs ++ output ∷ [])
  more_suc [] i t os o e r h = absurd (some-ne-none t (sym e))
  more_suc (x ∷ xs) zero t [] o e r h = (subst (λ (y : T). R y o) (sym (some-injective x t e)) r, tt)
  more_suc (x ∷ xs) zero t (q ∷ qs) o e r h = absurd h
  more_suc (x ∷ xs) (suc i) t [] o e r h = absurd h
  more_suc (x ∷ xs) (suc i) t (q ∷ qs) o e r h = (h.0, more_suc xs i t qs o e r h.1)

  pub one_more : (tasks : List T) (i : ℕ) (task : T) (made new : List O) (output : O) → get_elem? tasks i ≡ some task → R task output
      → new ≡ made ++ output ∷ [] → AllZip R (take i tasks) made → AllZip R (take (i + 1) tasks) new
  one_more tasks i task made new output e r n h =
      let s : suc i ≡ i + 1 = omega arith in
      subst (λ (k : ℕ). AllZip R (take k tasks) new) s (subst (λ (os : List O). AllZip R (take (suc i) tasks) os) (sym n) (more_suc tasks i task made output e r h))

  -- The outputs of all tasks.
  pub whole : (tasks : List T) (n : ℕ) (outputs : List O) → length tasks ≤ n → AllZip R (take n tasks) outputs → AllZip R tasks outputs
  whole [] zero os l h = h
  whole [] (suc n) os l h = h
  whole (x ∷ xs) zero os l h = absurd (omega arith)
  whole (x ∷ xs) (suc n) [] l h = absurd h
  whole (x ∷ xs) (suc n) (o ∷ os) l h = (h.0, whole xs n os (omega arith) h.1)

  -- No task has an output yet.
  pub none_yet : (tasks : List T) (outputs : List O) → outputs ≡ [] → AllZip R (take 0 tasks) outputs
  none_yet [] outputs e = subst (λ (os : List O). AllZip R [] os) (sym e) tt
  none_yet (x ∷ xs) outputs e = subst (λ (os : List O). AllZip R [] os) (sym e) tt

module _ {T O E : Type 0} (gives : T → O → Type 0) (fails : T → E → Type 0) (memory : E → Type 0) where
  -- The task at a place is the first that fails.
  pub first_failed : (tasks : List T) (n : ℕ) (task : T) (error : E) (outputs : List O) → get_elem? tasks n ≡ some task
      → fails task error ⊎ memory error → AllZip gives (take n tasks) outputs → FirstError gives fails memory tasks error
  first_failed tasks n task error outputs e why h =
      let k = around tasks n task e in
      (take n tasks, task, k.0, outputs, k.1, h, why)

  -- The task's own error, or an allocation failure.
  pub plain_failure : (tasks : List T) (error : E) → FirstError gives fails memory tasks error → FirstFailure gives fails tasks error ⊎ memory error
  plain_failure tasks error f = ⊎_elim (λ own. inl (f.0, f.1, f.2, f.3, f.4, f.5, own)) (λ m. inr m) f.6
