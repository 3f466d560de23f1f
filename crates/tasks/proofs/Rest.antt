-- The tasks that are left.
use Rattle.std.proofs.Common.{◌≡◌, ◌<◌, ◌++◌, ℕ, List, [], ◌∷◌, All, length, refl, sym, ap, ◌∙◌, subst, arith, append_assoc}
use Rattle.std.proofs.lemmas.List.{append-nil}
use Rattle.std.proofs.lemmas.List.Elements.{All-head, All-tail}
use Rattle.std.specs.List.{AllZip}

-- No number is below 0.
pub none_below : {T : Type 0} (depth : T → ℕ) (tasks : List T) → All (λ task. depth task < 0) tasks → tasks ≡ []
none_below depth [] h = refl
none_below depth (x ∷ xs) h = let b : depth x < 0 = All-head (λ task. depth task < 0) x xs h in absurd (omega arith)

pub none_of : {T : Type 0} (tasks : List T) (n : ℕ) → n ≡ 0 → n ≡ length tasks → tasks ≡ []
none_of [] n z e = refl
none_of (x ∷ xs) n z e = absurd (omega arith)

-- What holds of all that were left holds of the first and of the others.
pub first_of : {T : Type 0} (P : T → Type 0) (task : T) (rest old : List T) → old ≡ task ∷ rest → All P old → P task
first_of P task rest old e h = All-head P task rest (subst (All P) e h)

pub others_of : {T : Type 0} (P : T → Type 0) (task : T) (rest old : List T) → old ≡ task ∷ rest → All P old → All P rest
others_of P task rest old e h = All-tail P task rest (subst (All P) e h)

zip_push : {T O : Type 0} (R : T → O → Type 0) (ts : List T) (os : List O) (t : T) (o : O) → AllZip R ts os → R t o → AllZip R (ts ++ t ∷ []) (os ++ o ∷ [])
zip_push R [] [] t o z r = (r, tt)
zip_push R [] (x ∷ xs) t o z r = absurd z
zip_push R (x ∷ xs) [] t o z r = absurd z
zip_push R (x ∷ xs) (y ∷ ys) t o z r = (z.0, zip_push R xs ys t o z.1 r)

module _ {T O : Type 0} (R : T → O → Type 0) (all : List T) where
  -- The tasks that have run, with their outputs, and those that are left.
  abbrev pub Ran : List O → List T → Type 0
  Ran outputs rest = (before : List T) × (all ≡ before ++ rest) × AllZip R before outputs

  -- No task has run.
  pub none_yet : (outputs : List O) (rest : List T) → rest ≡ all → outputs ≡ [] → Ran outputs rest
  none_yet outputs rest e n = ([], sym e, subst (λ (os : List O). AllZip R [] os) (sym n) tt)

  -- One task more has run.
  pub one_more : (outputs : List O) (task : T) (rest old : List T) (output : O) (new : List O)
      → old ≡ task ∷ rest → R task output → new ≡ outputs ++ output ∷ [] → Ran outputs old → Ran new rest
  one_more outputs task rest old output new e r n h = (
    h.0 ++ task ∷ [],
    h.1 ∙ (ap (λ ts. h.0 ++ ts) e ∙ sym (append_assoc h.0 (task ∷ []) rest)),
    subst (λ (os : List O). AllZip R (h.0 ++ task ∷ []) os) (sym n) (zip_push R h.0 outputs task output h.2 r),
  )

  -- All tasks have run.
  pub no_more : (outputs : List O) (old : List T) → old ≡ [] → Ran outputs old → AllZip R all outputs
  no_more outputs old e h = subst (λ (ts : List T). AllZip R ts outputs) (sym (h.1 ∙ (ap (λ ts. h.0 ++ ts) e ∙ append-nil h.0))) h.2
