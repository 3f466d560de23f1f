-- All harts are in the base or in sites. At the end of a complete list all are in the base.
use Rattle.std.proofs.Common.{◌≡◌, ◌≢◌, ℕ, zero, suc, ◌+◌, ◌<◌, ◌≤◌, ⊎_elim, cond, ◌==◌, eq-eqb, ne_eqb, List, [], ◌∷◌, length, refl, ap, ◌∙◌, arith, slice_index}
use mathlib.Core.Logic.{dite}
use native.Mathlib.Decide.{ℕ_discrete}
use Rattle.std.specs.List.{count_by}
use Rattle.std.proofs.lemmas.List.Sums.{sum_by-append}
use Rattle.transfer_table.specs.Plan.{Plan, IsPlan, IsHart, site_count}
use Rattle.transfer_table.specs.Table.{TableState, owner}
use Rattle.transfer_table.specs.Journal.{Reaches, AllGone}
use Rattle.transfer_table.specs.Laws.{harts_up_to}
use Rattle.transfer_table.specs.declared.entry.Entry.{Entry}
use Rattle.transfer_table.proofs.Positions.{legal_position}
use Rattle.transfer_table.proofs.Bounds.{legal_owner}

-- How many of the owners are at most s.
up_to : List ℕ → ℕ → ℕ
up_to os zero = count_by (λ q. q == 0) os
up_to os (suc s) = up_to os s + count_by (λ q. q == suc s) os

up_to-none : (s : ℕ) → up_to [] s ≡ 0
unfolding up_to
up_to-none zero = refl
up_to-none (suc s) = let r = up_to-none s in omega arith

count_hit : (o s : ℕ) (os : List ℕ) → o ≡ s → count_by (λ q. q == s) (o ∷ os) ≡ 1 + count_by (λ q. q == s) os
count_hit o s os e = let z = sum_by-append (λ q. cond {A = ℕ} (q == s) 1 0) (o ∷ []) os in let c : cond {A = ℕ} (o == s) 1 0 ≡ 1 = rw (eq-eqb o s e) refl in omega arith

count_miss : (o s : ℕ) (os : List ℕ) → o ≢ s → count_by (λ q. q == s) (o ∷ os) ≡ count_by (λ q. q == s) os
count_miss o s os n = let z = sum_by-append (λ q. cond {A = ℕ} (q == s) 1 0) (o ∷ []) os in let c : cond {A = ℕ} (o == s) 1 0 ≡ 0 = rw (ne_eqb o s n) refl in omega arith

up_to-above : (o : ℕ) (os : List ℕ) (s : ℕ) → s < o → up_to (o ∷ os) s ≡ up_to os s
unfolding up_to
up_to-above o os zero lt = count_miss o 0 os (λ z. omega arith)
up_to-above o os (suc s) lt = let r = up_to-above o os s (omega arith) in let c = count_miss o (suc s) os (λ z. omega arith) in omega arith

up_to-within : (o : ℕ) (os : List ℕ) (s : ℕ) → o ≤ s → up_to (o ∷ os) s ≡ suc (up_to os s)
unfolding up_to
up_to-within o os zero le = let c = count_hit o 0 os (omega arith) in omega arith
up_to-within o os (suc s) le = dite (ℕ_discrete o (suc s))
    (λ z. let r = up_to-above o os s (omega arith) in let c = count_hit o (suc s) os z in omega arith)
    (λ n. let r = up_to-within o os s (omega arith) in let c = count_miss o (suc s) os n in omega arith)

up_to-all : (os : List ℕ) (s : ℕ) → ((i : ℕ) → i < length os → slice_index os i ≤ s) → up_to os s ≡ length os
up_to-all [] s f = up_to-none s
up_to-all (o ∷ os) s f = up_to-within o os s (f 0 (omega arith)) ∙ ap suc (up_to-all os s (λ i lt. f (suc i) (omega arith)))

harts_up_to-up_to : (t : TableState) (s : ℕ) → harts_up_to t s ≡ up_to t.owners s
unfolding up_to
harts_up_to-up_to t zero = refl
harts_up_to-up_to t (suc s) = let r = harts_up_to-up_to t s in omega arith

-- All harts are in the base or in sites.
pub legal_held : (p : Plan) → IsPlan p → (es : List Entry) (t : TableState) → Reaches p es t → harts_up_to t (site_count p) ≡ p.harts
legal_held p plan es t is = let size = legal_position p plan es t is in
    harts_up_to-up_to t (site_count p) ∙ (up_to-all t.owners (site_count p) (λ i lt. ⊎_elim (λ z. omega arith) (λ r. r.0.1) (legal_owner p plan es t is i (let z = size.owners in omega arith))) ∙ size.owners)

-- If each site is gone, each hart is in the base.
pub complete_owner : (p : Plan) → IsPlan p → (es : List Entry) (t : TableState) → Reaches p es t → AllGone p t → (h : ℕ) → IsHart p h → owner t h ≡ 0
complete_owner p plan es t is gone h hart = ⊎_elim (λ z. z) (λ r. let g = gone (owner t h) r.0 in let l = r.1 in absurd (cc)) (legal_owner p plan es t is h hart)
