-- Which hart made which entries of a legal list, and when all sites are gone.
use Rattle.std.proofs.Common.{◌≡◌, ℕ, zero, suc, ◌+◌, ◌<◌, ◌≤◌, List, [], ◌∷◌, eq-eqb, ne_eqb, refl, sym, subst, arith}
use mathlib.Core.Logic.{dite}
use native.Mathlib.Decide.{ℕ_discrete}
use Rattle.std.specs.List.{All, sum_by}
use Rattle.std.proofs.lemmas.List.Sums.{sum_by-cons}
use Rattle.transfer_table.specs.Plan.{Plan, IsPlan, IsHart, IsSite, parent}
use Rattle.transfer_table.specs.Table.{TableState, row}
use Rattle.transfer_table.specs.Journal.{Reaches, AllGone}
use Rattle.transfer_table.specs.Entry.{hart_of, made_by}
use Rattle.transfer_table.specs.Laws.{IsEntryOf}
use Rattle.transfer_table.specs.declared.entry.Entry.{Entry}
use Rattle.transfer_table.specs.declared.entry.Stage.TheVariants.{Gone}
use Rattle.transfer_table.proofs.Stages.{legal_children}

module _ (f : Entry → ℕ) where
  made_own : (e : Entry) (es : List Entry) → sum_by f (made_by (hart_of e) (e ∷ es)) ≡ f e + sum_by f (made_by (hart_of e) es)
  made_own e es =
      let kept : made_by (hart_of e) (e ∷ es) ≡ e ∷ made_by (hart_of e) es = rw (eq-eqb (hart_of e) (hart_of e) refl) refl in
      subst (λ (l : List Entry). sum_by f l ≡ f e + sum_by f (made_by (hart_of e) es)) (sym kept) (sum_by-cons f e (made_by (hart_of e) es))

  made_more : (h : ℕ) (e : Entry) (es : List Entry) → sum_by f (made_by h es) ≤ sum_by f (made_by h (e ∷ es))
  made_more h e es = dite (ℕ_discrete (hart_of e) h)
      (λ own. subst (λ (k : ℕ). sum_by f (made_by k es) ≤ sum_by f (made_by k (e ∷ es))) own (let one = made_own e es in omega arith))
      (λ other. let left : made_by h (e ∷ es) ≡ made_by h es = rw (ne_eqb (hart_of e) h other) refl in
      subst (λ (l : List Entry). sum_by f (made_by h es) ≤ sum_by f l) (sym left) (omega arith))

  -- If the sum over all entries isn't 0, some hart's sum isn't.
  pub maker : (p : Plan) (es : List Entry) → All (IsEntryOf p) es → 1 ≤ sum_by f es → (h : ℕ) × IsHart p h × (1 ≤ sum_by f (made_by h es))
  maker p [] all any = absurd (omega arith)
  maker p (e ∷ es) all any =
      let whole = sum_by-cons f e es in
      dite (ℕ_discrete (f e) 0)
      (λ none. let r = maker p es (λ k d lt. all (suc k) d (omega arith)) (omega arith) in let more = made_more r.0 e es in let some = r.2 in (r.0, r.1, omega arith))
      (λ some. let own = made_own e es in (hart_of e, (all 0 e (omega arith)).0, omega arith))

  -- If each hart's sum is 0, the sum over all entries is 0.
  pub none_made : (p : Plan) (es : List Entry) → All (IsEntryOf p) es → ((h : ℕ) → IsHart p h → sum_by f (made_by h es) ≡ 0) → sum_by f es ≡ 0
  none_made p es all none = dite (ℕ_discrete (sum_by f es) 0)
      (λ is. is)
      (λ some. let m = maker p es all (omega arith) in let one = m.2 in let zero = none m.0 m.1 in absurd (omega arith))

-- If all children of the base are gone, all sites are.
pub all_gone : (p : Plan) → IsPlan p → (es : List Entry) (t : TableState) → Reaches p es t → ((x : ℕ) → IsSite p x → parent p x ≡ 0 → (row t x).stage ≡ Gone) → AllGone p t
all_gone p plan es t leads tops s site = below (suc s) s (omega arith) site
  where
    below : (n x : ℕ) → x < n → IsSite p x → (row t x).stage ≡ Gone
    below zero x lt is = absurd (omega arith)
    below (suc n) x lt is = dite (ℕ_discrete (parent p x) 0)
        (λ top. tops x is top)
        (λ inner. let under = plan.below x is.0 is.1 in let high = is.1 in let up : IsSite p (parent p x) = (omega arith, omega arith) in
        legal_children p plan es t leads (parent p x) x up is refl (below n (parent p x) (omega arith) up))
