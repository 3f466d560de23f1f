-- A word spells one entry.
use Rattle.std.proofs.Common.{◌≡◌, ℕ, zero, suc, ◌/◌, ◌%◌, ◌≤◌, eqb, cond, List, [], ◌∷◌, slice_get, refl, sym, ap, ◌∙◌, subst, arith, Some}
use Rattle.transfer_table.specs.Plan.{Plan}
use Rattle.transfer_table.specs.Entry.{hart_of, site_of, count_of}
use Rattle.transfer_table.specs.Laws.{IsEntryOf}
use Rattle.transfer_table.specs.declared.entry.Entry.{Entry}
use Rattle.transfer_table.specs.declared.entry.Entry.TheVariants.{Register, Request, Enter, Yield, Unregister, Skip}
use Rattle.board_rule.specs.Encodings.{spelled}

-- The number of an entry's kind, as in its word.
kind : Entry → ℕ
kind (Register h s) = 1
kind (Request h s k) = 2
kind (Enter h s) = 3
kind (Yield h s) = 4
kind (Unregister h s) = 5
kind (Skip h s) = 6

parts : (e : Entry) → hart_of e ≤ 31 → count_of e ≤ 255 → (spelled e % 8 ≡ kind e) × (spelled e / 8 % 32 ≡ hart_of e) × (spelled e / 256 % 256 ≡ count_of e) × (spelled e / 65536 ≡ site_of e)
unfolding kind
parts (Register h s) a b = (omega arith, omega arith, omega arith, omega arith)
parts (Request h s k) a b = (omega arith, omega arith, omega arith, omega arith)
parts (Enter h s) a b = (omega arith, omega arith, omega arith, omega arith)
parts (Yield h s) a b = (omega arith, omega arith, omega arith, omega arith)
parts (Unregister h s) a b = (omega arith, omega arith, omega arith, omega arith)
parts (Skip h s) a b = (omega arith, omega arith, omega arith, omega arith)

-- The entry of these parts.
built : ℕ → ℕ → ℕ → ℕ → Entry
built k h c s = cond (eqb k 1) (Register h s) (cond (eqb k 2) (Request h s c) (cond (eqb k 3) (Enter h s) (cond (eqb k 4) (Yield h s) (cond (eqb k 5) (Unregister h s) (Skip h s)))))

rebuilt : (e : Entry) → built (kind e) (hart_of e) (count_of e) (site_of e) ≡ e
unfolding built kind
rebuilt (Register h s) = refl
rebuilt (Request h s k) = refl
rebuilt (Enter h s) = refl
rebuilt (Yield h s) = refl
rebuilt (Unregister h s) = refl
rebuilt (Skip h s) = refl

-- A word spells one entry.
pub spelled_once : (e f : Entry) → hart_of e ≤ 31 → count_of e ≤ 255 → hart_of f ≤ 31 → count_of f ≤ 255 → spelled e ≡ spelled f → e ≡ f
spelled_once e f a b c d same =
    let p = parts e a b in let q = parts f c d in
    let k : kind e ≡ kind f = sym p.0 ∙ ap (λ (n : ℕ). n % 8) same ∙ q.0 in
    let h : hart_of e ≡ hart_of f = sym p.1 ∙ ap (λ (n : ℕ). n / 8 % 32) same ∙ q.1 in
    let n : count_of e ≡ count_of f = sym p.2 ∙ ap (λ (n : ℕ). n / 256 % 256) same ∙ q.2 in
    let x : site_of e ≡ site_of f = sym p.3 ∙ ap (λ (n : ℕ). n / 65536) same ∙ q.3 in
    sym (rebuilt e) ∙ (λ i. built (k i) (h i) (n i) (x i)) ∙ rebuilt f

pub entry_at : (p : Plan) (es : List Entry) (i : ℕ) (e : Entry) → slice_get es i ≡ Some e → Rattle.std.specs.List.All (IsEntryOf p) es → IsEntryOf p e
entry_at p [] i e is all = absurd (cc)
entry_at p (x ∷ xs) zero e is all = let same : x ≡ e = cc in subst (IsEntryOf p) same (all 0 x (omega arith))
entry_at p (x ∷ xs) (suc i) e is all = entry_at p xs i e is (λ k d lt. all (suc k) d (omega arith))
