-- A ledger continues with what its table admits, and its words fit.
use Rattle.std.proofs.Common.{◌≡◌, ℕ, suc, ◌+◌, ◌-◌, ◌*◌, ◌^◌, ◌<◌, ◌≤◌, List, [], ◌∷◌, length, get_or, take, drop, sym, ap, subst, ◌∙◌, arith, ⊎_elim}
use Rattle.std.proofs.Math.Seq.{drop-cons}
use Rattle.std.proofs.lemmas.List.{length-take, length-drop, get_or-take, get_or-drop}
use Rattle.transfer_table.specs.Plan.{IsHart, site_count}
use Rattle.transfer_table.specs.Table.{owner}
use Rattle.transfer_table.proofs.Positions.{legal_position}
use Rattle.transfer_table.proofs.Bounds.{few_entries, legal_owner}
use Rattle.hart_port.specs.Words.{owner_digits}
use Rattle.hart_port.specs.Ledger.{LedgerState, IsLedger}

-- Each hart is in the base or in a site of the plan.
pub owner_inside : (l : LedgerState) → IsLedger l → (h : ℕ) → IsHart l.plan h → owner l.state h ≤ site_count l.plan
owner_inside l is h hart = ⊎_elim (λ z. omega arith) (λ r. let high = r.0.1 in high) (legal_owner l.plan is.plan l.entries l.state is.reached h hart)

-- Up to four owners fit in 48 bits.
small : (os : List ℕ) → ((i : ℕ) → i < length os → get_or os i 0 ≤ 4095) → length os ≤ 4 → owner_digits os < 2 ^ 48
small [] f few = omega arith
small (a ∷ []) f few = let x : a ≤ 4095 = f 0 (omega arith) in omega arith
small (a ∷ b ∷ []) f few = let x : a ≤ 4095 = f 0 (omega arith) in let y : b ≤ 4095 = f 1 (omega arith) in omega arith
small (a ∷ b ∷ c ∷ []) f few = let x : a ≤ 4095 = f 0 (omega arith) in let y : b ≤ 4095 = f 1 (omega arith) in let z : c ≤ 4095 = f 2 (omega arith) in omega arith
small (a ∷ b ∷ c ∷ d ∷ []) f few = let x : a ≤ 4095 = f 0 (omega arith) in let y : b ≤ 4095 = f 1 (omega arith) in let z : c ≤ 4095 = f 2 (omega arith) in let w : d ≤ 4095 = f 3 (omega arith) in omega arith
small (a ∷ b ∷ c ∷ d ∷ e ∷ os) f few = absurd (omega arith)

-- The digits of the first four owners from a hart on.
pub digits_small : (l : LedgerState) → IsLedger l → (n : ℕ) → owner_digits (drop n (take 4 l.state.owners)) < 2 ^ 48
digits_small l is n = let fits = legal_position l.plan is.plan l.entries l.state is.reached in let same = fits.owners in
    let first : List ℕ = take 4 l.state.owners in
    let few : length first ≤ 4 × (length first ≤ length l.state.owners) = let e = length-take 4 l.state.owners in (omega arith, omega arith) in
    let size : length (drop n first) ≡ length first - n = length-drop n first in
    small (drop n first) (λ i lt. subst (λ (x : ℕ). x ≤ 4095) (sym (get_or-drop n first i 0 ∙ get_or-take 4 l.state.owners (n + i) 0 (omega (arith, few.0))))
    (let high = owner_inside l is (n + i) (omega (arith, few.1)) in let sites = is.plan.few_sites in omega arith)) (omega (arith, few.0))

-- The owners' digits, with one more hart.
pub digits_before : (os : List ℕ) (h : ℕ) → 0 < h → h ≤ length os → owner_digits (drop (h - 1) os) ≡ owner_digits (drop h os) * 4096 + get_or os (h - 1) 0
digits_before os h low high = let n : suc (h - 1) ≡ h = omega arith in
    let e = drop-cons os (h - 1) 0 (omega arith) in
    let f : drop (h - 1) os ≡ get_or os (h - 1) 0 ∷ drop h os = e ∙ ap (λ (x : ℕ). get_or os (h - 1) 0 ∷ drop x os) n in
    let g : owner_digits (drop (h - 1) os) ≡ get_or os (h - 1) 0 + 4096 * owner_digits (drop h os) = ap owner_digits f in omega arith

-- A journal has at most 65,535 entries.
pub entries_few : (l : LedgerState) → IsLedger l → length l.entries < 65536
entries_few l is = let few = few_entries l.plan is.plan l.entries l.state is.reached in omega (arith, few)
