-- From a step that keeps the invariant to what the atomic table requires of it.
use Rattle.std.proofs.Common.{◌≡◌, ℕ, zero, suc, ◌<◌, ◌≤◌, ◌^◌, Bool, true, false, List, [], ◌∷◌, length, slice_index, refl, sym, subst, arith, ⊎_elim}
use mathlib.Core.Option.{some, some-ne-none}
use lib.ListN.{get_elem?}
use Rattle.atomic_table.specs.Table.{Allows, Me, keeps}
use Rattle.atomic_table.proofs.Lists.{set_here}
use Rattle.transfer_table.specs.Plan.{Plan, site_count}
use Rattle.transfer_table.proofs.Bounds.{legal_owner}
use Rattle.hart_port.specs.PortView.{is_in}
use Rattle.board_rule.specs.declared.layout.Layout.{Layout}
use Rattle.board_rule.specs.declared.view.View.{View}
use Rattle.board_rule.specs.Rule.{Stands, IsSeat, FitsPlan}
use Rattle.board_rule.specs.Laws.{St, after_step}
use Rattle.board_rule.proofs.BoardSteps.{in_plan}

inside : {A : Type 0} (l : List A) (i : ℕ) (a : A) → get_elem? l i ≡ some a → i < length l
inside [] i a e = absurd (some-ne-none a (sym e))
inside (x ∷ xs) zero a e = omega arith
inside (x ∷ xs) (suc i) a e = let r = inside xs i a e in omega arith

-- The view of each seat fits its plan.
pub fits_plan : (lay : Layout) (p : Plan) (s : St) (k : Stands lay p s) (id : ℕ) (v : View) → get_elem? s.views id ≡ some v → IsSeat v → FitsPlan v
fits_plan lay p s k id v at seat =
    let know = k.views id v at seat in
    let base : (b : Bool) → is_in v.marks.homes 0 ≡ b → b ≡ false = λ b is. by_case b is in
    let owned : v.owner ≤ site_count p = let o = know.itself.owner in ⊎_elim (λ z. omega arith) (λ r. let high = r.0.1 in omega arith) (legal_owner p k.plan k.journal k.table k.legal v.hart (in_plan lay p s k id v at seat)) in
    let Q : Plan → Type 0 = λ q. (v.owner ≤ site_count q) × Rattle.board_rule.specs.Rule.HasFlags q v.marks in
    let both = subst Q (sym know.itself.plan) (owned, know.sites.sized) in
    record { owner = both.0; flags = both.1; base = base (is_in v.marks.homes 0) refl }
  where
    by_case : (b : Bool) → is_in v.marks.homes 0 ≡ b → b ≡ false
    by_case true is = absurd (let low = ((k.views id v at seat).sites.homes_in 0 is).0 in omega arith)
    by_case false is = refl

-- A step is allowed if its new state keeps the invariant. The result has the new view, that it fits its plan, and E.
pub allowed : (lay : Layout) (p : Plan) (slots id : ℕ) (me : Me (Unit {0}) View) (i : ℕ) (f : ℕ → ℕ) (next : ℕ → View → View) (E : ℕ → Type 0) → ((n : ℕ) → IsSeat (next n me.0))
    → ((s : St) (k : Stands lay p s) → get_elem? s.views id ≡ some me.0 → slice_index s.words i < 2 ^ 64 → Stands lay p (after_step s i (f (slice_index s.words i)) id (next (slice_index s.words i) me.0)) × E (slice_index s.words i))
    → Allows (Stands lay p) slots id me i f (λ n after. (after ≡ (next n me.0, me.1)) × FitsPlan after.0 × E n)
allowed lay p slots id me i f next E seat keep s k _ at small =
    let n : ℕ = slice_index s.words i in
    let w : View = next n me.0 in
    let r = keep s k at small in (
      w,
      keeps,
      tt,
      r.0,
      (refl, fits_plan lay p (after_step s i (f n) id w) r.0 id w (set_here s.views id w (inside s.views id me.0 at)) (seat n), r.1),
    )
