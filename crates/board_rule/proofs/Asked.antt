-- Which registers and requests of a site one hart made.
use Rattle.std.proofs.Common.{◌≡◌, ◌≢◌, ℕ, suc, ◌≤◌, Bool, true, false, eqb, cond, not, ◌==◌, eq-eqb, ne_eqb, if◌then◌else◌, List, [], ◌∷◌, refl, sym, ap, ◌∙◌, arith, Option, Some, None}
use mathlib.Core.Logic.{dite}
use native.Mathlib.Decide.{ℕ_discrete}
use Rattle.std.specs.List.{All}
use Rattle.std.proofs.lemmas.Bool.{eqb-true}
use Rattle.std.proofs.lemmas.List.Sums.{sum_by-cons}
use Rattle.std.proofs.lemmas.List.Filters.{sum_by-filter_both}
use Rattle.transfer_table.specs.Plan.{Plan, IsPlan, IsSite}
use Rattle.transfer_table.specs.Table.{TableState, row, is_home}
use Rattle.transfer_table.specs.Journal.{Reaches}
use Rattle.transfer_table.specs.Entry.{hart_of, site_of, count_of, is_register, made_by, registers, requested}
use Rattle.transfer_table.specs.Laws.{IsByHome}
use Rattle.transfer_table.specs.declared.entry.Row.{Row}
use Rattle.transfer_table.specs.declared.entry.Stage.TheVariants.{New}
use Rattle.transfer_table.specs.declared.entry.Entry.{Entry}
use Rattle.transfer_table.specs.declared.entry.Entry.TheVariants.{Register, Request, Enter, Yield, Unregister, Skip}
use Rattle.transfer_table.proofs.Balance.{legal_balance, legal_by_home}
use Rattle.transfer_table.proofs.Begins.{legal_begins}
use Rattle.transfer_table.proofs.Stages.{legal_blank}

pub is_home-some : (o : Option ℕ) (h : ℕ) → is_home o h ≡ true → o ≡ Some h
is_home-some None h e = absurd (cc)
is_home-some (Some g) h e = ap (λ (x : ℕ). Some x) (eqb-true g h e)

none_asked : (b : Bool) (n : ℕ) → n ≡ 0 → (if b then n else 0) ≡ 0
none_asked true n z = z
none_asked false n z = refl

not_asked : (t : TableState) (x h : ℕ) (e : Entry) → (row t x).home ≡ Some h → IsByHome t e → hart_of e ≢ h → (if site_of e == x then count_of e else 0) ≡ 0
not_asked t x h (Register g s) home by other = none_asked (eqb s x) 0 refl
not_asked t x h (Request g s k) home by other = rw (ne_eqb s x (λ z. other (let here : (row t x).home ≡ Some g = ap (λ (q : ℕ). (row t q).home) (sym z) ∙ by in cc))) refl
not_asked t x h (Enter g s) home by other = none_asked (eqb s x) 0 refl
not_asked t x h (Yield g s) home by other = none_asked (eqb s x) 0 refl
not_asked t x h (Unregister g s) home by other = none_asked (eqb s x) 0 refl
not_asked t x h (Skip g s) home by other = none_asked (eqb s x) 0 refl

-- All requests of a site are by its home.
requested_by_home : (t : TableState) (x h : ℕ) → (row t x).home ≡ Some h → (es : List Entry) → All (IsByHome t) es → requested x (made_by h es) ≡ requested x es
requested_by_home t x h home [] all = refl
requested_by_home t x h home (e ∷ es) all =
    let again = requested_by_home t x h home es (λ k d lt. all (suc k) d (omega arith)) in
    let here : IsByHome t e = all 0 e (omega arith) in
    let more = sum_by-cons (λ (q : Entry). if site_of q == x then count_of q else 0) e es in
    dite (ℕ_discrete (hart_of e) h)
    (λ own. let less = sum_by-cons (λ (q : Entry). if site_of q == x then count_of q else 0) e (made_by h es) in
    let kept : requested x (made_by h (e ∷ es)) ≡ requested x (e ∷ made_by h es) = rw (eq-eqb (hart_of e) h own) refl in omega arith)
    (λ other. let none = not_asked t x h e home here other in
    let left : requested x (made_by h (e ∷ es)) ≡ requested x (made_by h es) = rw (ne_eqb (hart_of e) h other) refl in omega arith)

-- A site's requests are those that its home made.
pub asked_by_home : (p : Plan) → IsPlan p → (es : List Entry) (t : TableState) → Reaches p es t → (x h : ℕ) → IsSite p x → (row t x).home ≡ Some h → (row t x).asked ≡ requested x (made_by h es)
asked_by_home p plan es t leads x h site home = (legal_balance p plan es t leads x site).asked ∙ sym (requested_by_home t x h home es (legal_by_home p plan es t leads))

fewer : (f : Entry → ℕ) (h : ℕ) (es : List Entry) → Rattle.std.specs.List.sum_by f (made_by h es) ≤ Rattle.std.specs.List.sum_by f es
fewer f h es = let both = sum_by-filter_both (λ (e : Entry). hart_of e == h) (λ (e : Entry). not (hart_of e == h)) (λ _. refl) f es in omega arith

-- No hart has registered a new site or made a request for it.
pub new_untouched : (p : Plan) → IsPlan p → (es : List Entry) (t : TableState) → Reaches p es t → (x h : ℕ) → IsSite p x → (row t x).stage ≡ New → (registers x (made_by h es) ≡ 0) × (requested x (made_by h es) ≡ 0)
new_untouched p plan es t leads x h site new =
    let came : registers x es ≡ 0 = let z = ((legal_begins p plan es t leads x site).fresh new).0 in omega arith in
    let asked : requested x es ≡ 0 = sym (legal_balance p plan es t leads x site).asked ∙ ap (λ (r : Row). r.asked) (legal_blank p plan es t leads x site new) in
    let a = fewer (λ (e : Entry). cond (if site_of e == x then is_register e else false) 1 0) h es in
    let b = fewer (λ (e : Entry). if site_of e == x then count_of e else 0) h es in (omega arith, omega arith)
