-- The new state: the entry's hart and site change, and for a skip the descendants of its site; all else stays.
use Rattle.std.proofs.Common.{◌≡◌, ◌≢◌, ℕ, ◌+◌, ◌-◌, ◌≤◌, Bool, true, false, set, refl, sym, ap, subst, ◌∙◌, arith, slice_index_or, Some, get_or-set_same, get_or-set_other}
use mathlib.Core.Logic.{dite}
use native.Mathlib.Decide.{ℕ_discrete}
use Rattle.transfer_table.specs.Plan.{Plan, IsHart, IsSite, parent, is_within}
use Rattle.transfer_table.specs.Table.{TableState, effect_of, owner, row, blank, swept, swept_row}
use Rattle.transfer_table.specs.Entry.{hart_of, site_of, covers}
use Rattle.transfer_table.specs.Allowed.{IsAllowed}
use Rattle.transfer_table.specs.declared.entry.Row.{Row}
use Rattle.transfer_table.specs.declared.entry.Stage.TheVariants.{Live, Gone}
use Rattle.transfer_table.specs.declared.entry.Entry.{Entry}
use Rattle.transfer_table.specs.declared.entry.Entry.TheVariants.{Register, Request, Enter, Yield, Unregister, Skip}
use Rattle.transfer_table.proofs.Positions.{Fits}
use Rattle.transfer_table.proofs.Sweeps.{swept-within, swept-outside}
use Rattle.transfer_table.proofs.Within.{within-itself}

-- The owner of the entry's hart after the entry.
abbrev pub owner_after : Plan → Entry → ℕ
owner_after p (Register h s) = s
owner_after p (Request h s k) = s
owner_after p (Enter h s) = s
owner_after p (Yield h s) = parent p s
owner_after p (Unregister h s) = parent p s
owner_after p (Skip h s) = parent p s

-- The row of the entry's site after the entry.
abbrev pub row_after : TableState → Entry → Row
row_after t (Register h s) = record { stage = Live; home = Some h; wishes = 0; asked = 0 }
row_after t (Request h s k) = record (row t s) { wishes = (row t s).wishes + k; asked = (row t s).asked + k }
row_after t (Enter h s) = record (row t s) { wishes = (row t s).wishes - 1 }
row_after t (Yield h s) = row t s
row_after t (Unregister h s) = record (row t s) { stage = Gone }
row_after t (Skip h s) = swept_row (row t s)

pub allowed_hart : (p : Plan) (t : TableState) (e : Entry) → IsAllowed p t e → IsHart p (hart_of e)
allowed_hart p t (Register h s) a = a.0
allowed_hart p t (Request h s k) a = a.0
allowed_hart p t (Enter h s) a = a.0
allowed_hart p t (Yield h s) a = a.0
allowed_hart p t (Unregister h s) a = a.0
allowed_hart p t (Skip h s) a = a.0

pub allowed_site : (p : Plan) (t : TableState) (e : Entry) → IsAllowed p t e → IsSite p (site_of e)
allowed_site p t (Register h s) a = a.1
allowed_site p t (Request h s k) a = a.1
allowed_site p t (Enter h s) a = a.1
allowed_site p t (Yield h s) a = a.1
allowed_site p t (Unregister h s) a = a.1
allowed_site p t (Skip h s) a = a.1

-- The entry's hart has its new owner.
pub owner-effect_same : (p : Plan) (t : TableState) (e : Entry) → Fits p t → IsAllowed p t e → owner (effect_of p t e) (hart_of e) ≡ owner_after p e
owner-effect_same p t (Register h s) f a = get_or-set_same t.owners h s 0 (let z = f.owners in let l = a.0 in omega arith)
owner-effect_same p t (Request h s k) f a = a.2
owner-effect_same p t (Enter h s) f a = get_or-set_same t.owners h s 0 (let z = f.owners in let l = a.0 in omega arith)
owner-effect_same p t (Yield h s) f a = get_or-set_same t.owners h (parent p s) 0 (let z = f.owners in let l = a.0 in omega arith)
owner-effect_same p t (Unregister h s) f a = get_or-set_same t.owners h (parent p s) 0 (let z = f.owners in let l = a.0 in omega arith)
owner-effect_same p t (Skip h s) f a = a.2

-- The other harts keep their owners.
pub owner-effect_other : (p : Plan) (t : TableState) (e : Entry) (g : ℕ) → g ≢ hart_of e → owner (effect_of p t e) g ≡ owner t g
owner-effect_other p t (Register h s) g n = get_or-set_other t.owners h g s 0 n
owner-effect_other p t (Request h s k) g n = refl
owner-effect_other p t (Enter h s) g n = get_or-set_other t.owners h g s 0 n
owner-effect_other p t (Yield h s) g n = get_or-set_other t.owners h g (parent p s) 0 n
owner-effect_other p t (Unregister h s) g n = get_or-set_other t.owners h g (parent p s) 0 n
owner-effect_other p t (Skip h s) g n = refl

set_here : (p : Plan) (t : TableState) (s : ℕ) (r : Row) → Fits p t → IsSite p s → slice_index_or (set t.rows (s - 1) r) (s - 1) blank ≡ r
set_here p t s r f is = get_or-set_same t.rows (s - 1) r blank (let z = f.rows in let low = is.0 in let high = is.1 in omega arith)

set_else : (t : TableState) (s y : ℕ) (r : Row) → 1 ≤ s → 1 ≤ y → y ≢ s → slice_index_or (set t.rows (s - 1) r) (y - 1) blank ≡ row t y
set_else t s y r low low' n = get_or-set_other t.rows (s - 1) (y - 1) r blank (λ e. n (omega arith))

-- A row within the skipped site is gone and has no home.
row-swept : (p : Plan) (t : TableState) (s y : ℕ) → Fits p t → IsSite p y → is_within p s y ≡ true → slice_index_or (swept p s t.rows 1) (y - 1) blank ≡ swept_row (row t y)
row-swept p t s y f is w = let low = is.0 in let high = is.1 in let z = f.rows in let e : 1 + (y - 1) ≡ y = omega arith in swept-within p s t.rows 1 (y - 1) blank (omega arith) (ap (is_within p s) e ∙ w)

-- A row outside the skipped site stays.
row-kept : (p : Plan) (t : TableState) (s y : ℕ) → Fits p t → IsSite p y → is_within p s y ≡ false → slice_index_or (swept p s t.rows 1) (y - 1) blank ≡ row t y
row-kept p t s y f is w = let low = is.0 in let high = is.1 in let z = f.rows in let e : 1 + (y - 1) ≡ y = omega arith in swept-outside p s t.rows 1 (y - 1) blank (omega arith) (ap (is_within p s) e ∙ w)

-- The entry's site has its new row.
pub row-effect_same : (p : Plan) (t : TableState) (e : Entry) → Fits p t → IsAllowed p t e → row (effect_of p t e) (site_of e) ≡ row_after t e
row-effect_same p t (Register h s) f a = set_here p t s (row_after t (Register h s)) f a.1
row-effect_same p t (Request h s k) f a = set_here p t s (row_after t (Request h s k)) f a.1
row-effect_same p t (Enter h s) f a = set_here p t s (row_after t (Enter h s)) f a.1
row-effect_same p t (Yield h s) f a = refl
row-effect_same p t (Unregister h s) f a = set_here p t s (row_after t (Unregister h s)) f a.1
row-effect_same p t (Skip h s) f a = row-swept p t s s f a.1 (within-itself p s)

-- A row stays if the entry neither is of its site nor covers the site.
pub row-effect_other : (p : Plan) (t : TableState) (e : Entry) (y : ℕ) → Fits p t → IsAllowed p t e → IsSite p y → y ≢ site_of e → covers p e y ≡ false → row (effect_of p t e) y ≡ row t y
row-effect_other p t (Register h s) y f a is n c = set_else t s y (row_after t (Register h s)) a.1.0 is.0 n
row-effect_other p t (Request h s k) y f a is n c = set_else t s y (row_after t (Request h s k)) a.1.0 is.0 n
row-effect_other p t (Enter h s) y f a is n c = set_else t s y (row_after t (Enter h s)) a.1.0 is.0 n
row-effect_other p t (Yield h s) y f a is n c = refl
row-effect_other p t (Unregister h s) y f a is n c = set_else t s y (row_after t (Unregister h s)) a.1.0 is.0 n
row-effect_other p t (Skip h s) y f a is n c = row-kept p t s y f is c

-- A row that the entry covers is gone and has no home.
pub row-effect_covered : (p : Plan) (t : TableState) (e : Entry) (y : ℕ) → Fits p t → IsSite p y → covers p e y ≡ true → row (effect_of p t e) y ≡ swept_row (row t y)
row-effect_covered p t (Register h s) y f is c = absurd (cc)
row-effect_covered p t (Request h s k) y f is c = absurd (cc)
row-effect_covered p t (Enter h s) y f is c = absurd (cc)
row-effect_covered p t (Yield h s) y f is c = absurd (cc)
row-effect_covered p t (Unregister h s) y f is c = absurd (cc)
row-effect_covered p t (Skip h s) y f is c = row-swept p t s y f is c

-- A property of a site's row, in three cases: the entry is of the site, skips a site around it, or neither.
pub at_site : (p : Plan) (t : TableState) (e : Entry) (y : ℕ) (P : ℕ → Row → Type 0) → Fits p t → IsAllowed p t e → IsSite p y → P (site_of e) (row_after t e)
    → (y ≢ site_of e → covers p e y ≡ false → P y (row t y)) → (y ≢ site_of e → covers p e y ≡ true → P y (swept_row (row t y))) → P y (row (effect_of p t e) y)
at_site p t e y P f a is here else inner = dite (ℕ_discrete y (site_of e))
    (λ z. let Q : ℕ → Type 0 = λ x. P x (row (effect_of p t e) x) in subst Q (sym z) (subst (P (site_of e)) (sym (row-effect_same p t e f a)) here))
    (λ n. split n (covers p e y) refl)
  where
    split : y ≢ site_of e → (b : Bool) → covers p e y ≡ b → P y (row (effect_of p t e) y)
    split n true c = subst (P y) (sym (row-effect_covered p t e y f is c)) (inner n c)
    split n false c = subst (P y) (sym (row-effect_other p t e y f a is n c)) (else n c)

-- A property of a hart's owner, in two cases: the entry is by the hart, or isn't.
pub at_hart : (p : Plan) (t : TableState) (e : Entry) (g : ℕ) (P : ℕ → ℕ → Type 0) → Fits p t → IsAllowed p t e → P (hart_of e) (owner_after p e) → (g ≢ hart_of e → P g (owner t g)) → P g (owner (effect_of p t e) g)
at_hart p t e g P f a here else = dite (ℕ_discrete g (hart_of e))
    (λ z. let Q : ℕ → Type 0 = λ x. P x (owner (effect_of p t e) x) in subst Q (sym z) (subst (P (hart_of e)) (sym (owner-effect_same p t e f a)) here))
    (λ n. subst (P g) (sym (owner-effect_other p t e g n)) (else n))
