-- Tasks that are held, their outputs and their errors.
use Rattle.std.proofs.Common.{◌≡◌, ◌<◌, ◌++◌, ℕ, List, [], ◌∷◌, All, map, length, refl, sym, ap, ◌∙◌, subst, arith, append_assoc}
use Rattle.std.proofs.lemmas.List.{append-nil}
use Rattle.std.proofs.lemmas.List.Elements.{All-head, All-tail, All-nil, All-cons}
use Rattle.std.specs.List.{AllZip}
use Rattle.tasks.specs.Failures.{FirstFailure}

module _ {T P Q : Type 0} (S : T → P → Type 0) (R : T → Q → Type 0) where
  first_left : (left : List T) (p : P) (rest : List P) → AllZip S left (p ∷ rest) → (task : T) × S task p
  first_left [] p rest z = absurd z
  first_left (w ∷ ws) p rest z = (w, z.0)

  -- Of whatever tasks these are the outputs, the own outputs so far and those of what is left are their own outputs.
  abbrev pub Left : List P → List P → List Q → Type 0
  Left all rest own =
      (tasks : List T) → AllZip S tasks all
      → (left : List T) × AllZip S left rest × ((more : List Q) → AllZip R left more → AllZip R tasks (own ++ more))

  pub starts : (all rest : List P) (own : List Q) → rest ≡ all → own ≡ [] → Left all rest own
  starts all rest own e n tasks z = (
    tasks,
    subst (λ (ps : List P). AllZip S tasks ps) (sym e) z,
    (λ more y. subst (λ (qs : List Q). AllZip R tasks (qs ++ more)) (sym n) y),
  )

  goes_on : (tasks left : List T) (p : P) (rest : List P) (own : List Q) (q : Q) (new : List Q)
      → ((task : T) → S task p → R task q) → new ≡ own ++ q ∷ []
      → AllZip S left (p ∷ rest) → ((more : List Q) → AllZip R left more → AllZip R tasks (own ++ more))
      → (after : List T) × AllZip S after rest × ((more : List Q) → AllZip R after more → AllZip R tasks (new ++ more))
  goes_on tasks [] p rest own q new f e z h = absurd z
  goes_on tasks (w ∷ ws) p rest own q new f e z h = (
    ws,
    z.1,
    (λ more y. subst (λ (qs : List Q). AllZip R tasks qs) (sym (ap (λ qs. qs ++ more) e ∙ append_assoc own (q ∷ []) more)) (h (q ∷ more) (f w z.0, y))),
  )

  pub steps : (all old rest : List P) (own : List Q) (p : P) (q : Q) (new : List Q) → old ≡ p ∷ rest
      → ((task : T) → S task p → R task q) → new ≡ own ++ q ∷ [] → Left all old own → Left all rest new
  steps all old rest own p q new eo f e l tasks z =
      let k = l tasks z in
      goes_on tasks k.0 p rest own q new f e (subst (λ (ps : List P). AllZip S k.0 ps) eo k.1) k.2

  none_left : (left : List T) (tasks : List T) (own : List Q) → AllZip S left [] → ((more : List Q) → AllZip R left more → AllZip R tasks (own ++ more)) → AllZip R tasks own
  none_left [] tasks own z h = subst (λ (qs : List Q). AllZip R tasks qs) (append-nil own) (h [] tt)
  none_left (w ∷ ws) tasks own z h = absurd z

  -- Where an output is left, it is that of a task that was held.
  pub next_held : (all old rest : List P) (own : List Q) (p : P) → old ≡ p ∷ rest → Left all old own → (tasks : List T) → AllZip S tasks all → (task : T) × S task p
  next_held all old rest own p eo l tasks z =
      let k = l tasks z in first_left k.0 p rest (subst (λ (ps : List P). AllZip S k.0 ps) eo k.1)

  pub ends : (all rest : List P) (own : List Q) → rest ≡ [] → Left all rest own → (tasks : List T) → AllZip S tasks all → AllZip R tasks own
  ends all rest own e l tasks z =
      let k = l tasks z in none_left k.0 tasks own (subst (λ (ps : List P). AllZip S k.0 ps) e k.1) k.2

pub none_of : {P : Type 0} (rest : List P) (n : ℕ) → n ≡ 0 → n ≡ length rest → rest ≡ []
none_of [] n z e = refl
none_of (x ∷ xs) n z e = absurd (omega arith)

module _ {T V : Type 0} (f : T → V) where
  -- The same of tasks and of those that hold them.
  pub zip_map : {P : Type 0} (S : V → P → Type 0) (tasks : List T) (outputs : List P) → AllZip S (map f tasks) outputs → AllZip (λ task output. S (f task) output) tasks outputs
  zip_map S [] [] z = tt
  zip_map S [] (p ∷ ps) z = absurd z
  zip_map S (t ∷ ts) [] z = absurd z
  zip_map S (t ∷ ts) (p ∷ ps) z = (z.0, zip_map S ts ps z.1)

  pub all_map : (d : T → ℕ) (e : V → ℕ) → ((task : T) → e (f task) ≡ d task) → (n : ℕ) (tasks : List T) → All (λ task. d task < n) tasks → All (λ v. e v < n) (map f tasks)
  all_map d e same n [] h = All-nil (λ v. e v < n)
  all_map d e same n (t ∷ ts) h =
      All-cons (λ v. e v < n) (f t) (map f ts) (subst (λ (k : ℕ). k < n) (sym (same t)) (All-head (λ task. d task < n) t ts h)) (all_map d e same n ts (All-tail (λ task. d task < n) t ts h))

  module _ {P Q E D : Type 0} (S : V → P → Type 0) (F : V → E → Type 0) (R : T → Q → Type 0) (G : T → D → Type 0)
      (alone : (task : T) (p : P) → S (f task) p → (q : Q) × R task q) where
    -- The first failure of tasks that hold is that of the tasks that are held.
    pub first_held : (tasks : List T) (before : List V) (v : V) (after : List V) (outputs : List P) (error : E) (own : D)
        → ((task : T) → F (f task) error → G task own)
        → map f tasks ≡ before ++ v ∷ after → AllZip S before outputs → F v error → FirstFailure R G tasks own
    first_held [] [] v after outputs error own turn e z h = let no : ⊥ = cc in absurd no
    first_held [] (b ∷ bs) v after outputs error own turn e z h = let no : ⊥ = cc in absurd no
    first_held (t ∷ ts) [] v after outputs error own turn e z h =
        let same : v ≡ f t = cc in ([], t, ts, [], refl, tt, turn t (subst (λ x. F x error) same h))
    first_held (t ∷ ts) (b ∷ bs) v after [] error own turn e z h = absurd z
    first_held (t ∷ ts) (b ∷ bs) v after (p ∷ ps) error own turn e z h =
        let same : b ≡ f t = cc in
        let others : map f ts ≡ bs ++ v ∷ after = cc in
        let mine = alone t p (subst (λ x. S x p) same z.0) in
        let k = first_held ts bs v after ps error own turn others z.1 h in
        (t ∷ k.0, k.1, k.2, mine.0 ∷ k.3, ap (λ xs. t ∷ xs) k.4, (mine.1, k.5), k.6)
