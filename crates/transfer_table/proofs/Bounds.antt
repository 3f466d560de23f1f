-- A legal list is short: each entry lowers a potential.
use Rattle.std.proofs.Common.{◌≡◌, ◌≢◌, ℕ, suc, zero, ◌+◌, ◌-◌, ◌*◌, ◌<◌, ◌≤◌, Bool, true, false, not, cond, eqb, if◌then◌else◌, List, [], ◌∷◌, length, set, refl, sym, ap, subst, ◌∙◌, arith, slice_index_or, Option, Some, Ok, ◌++◌, eq-eqb, ne_eqb, inl, inr, length-set, length-append, get_or-set_same, get_or-set_other}
use mathlib.Core.Logic.{dite}
use native.Mathlib.Decide.{ℕ_discrete}
use Rattle.std.specs.List.{sum_by}
use Rattle.std.proofs.lemmas.List.Folds.{sum_by-replicate}
use Rattle.std.proofs.lemmas.List.Sums.{sum_by-set, sum_by-append}
use Rattle.std.proofs.lemmas.List.{set-get_or}
use Rattle.transfer_table.specs.Plan.{Plan, IsPlan, IsHart, IsSite, parent, is_within, site_count, most_entries, room}
use Rattle.transfer_table.specs.Table.{TableState, owner, row, blank, first_state, effect_of, is_new, is_live, is_gone, is_home, admit_of, swept, swept_row}
use Rattle.transfer_table.specs.Journal.{Reaches}
use Rattle.transfer_table.specs.declared.entry.Row.{Row}
use Rattle.transfer_table.specs.declared.entry.Stage.{Stage}
use Rattle.transfer_table.specs.declared.entry.Stage.TheVariants.{New, Live, Gone}
use Rattle.transfer_table.specs.declared.entry.Entry.{Entry}
use Rattle.transfer_table.specs.declared.entry.Entry.TheVariants.{Register, Request, Enter, Yield, Unregister, Skip}
use Rattle.transfer_table.specs.Allowed.{IsAllowed}
use Rattle.transfer_table.specs.Laws.{IsBaseOrLive}
use Rattle.transfer_table.proofs.Admits.{live_is, not_home}
use Rattle.transfer_table.proofs.Replays.{reaches-snoc}
use Rattle.transfer_table.proofs.Positions.{Fits, fits_first, fits_effect, lasts}
use Rattle.transfer_table.proofs.Effects.{at_site, row-effect_other}
use Rattle.transfer_table.proofs.Sweeps.{swept-set}
use Rattle.transfer_table.proofs.Within.{within_all, within-itself, within-below}
use Rattle.transfer_table.proofs.Lists.{replicate_at}

abbrev IsLive : TableState → ℕ → Type 0
IsLive t x = is_live (row t x).stage ≡ true

abbrev one : Bool → ℕ
one true = 1
one false = 0

-- 1 if the hart isn't the site's home
abbrev guest : TableState → ℕ → ℕ → ℕ
guest t h o = one (not (is_home (row t o).home h))

guest_few : (t : TableState) (h o : ℕ) → guest t h o ≤ 1
guest_few t h o = few (not (is_home (row t o).home h))
  where
    few : (b : Bool) → one b ≤ 1
    few true = omega arith
    few false = omega arith

guest_home : (t : TableState) (h o : ℕ) → is_home (row t o).home h ≡ true → guest t h o ≡ 0
guest_home t h o e = rw e refl

guest_other : (t : TableState) (h o : ℕ) → is_home (row t o).home h ≡ false → guest t h o ≡ 1
guest_other t h o e = rw e refl

guest_same : (t u : TableState) (h o : ℕ) → (row u o).home ≡ (row t o).home → guest u h o ≡ guest t h o
guest_same t u h o e = ap (λ (q : Option ℕ). one (not (is_home q h))) e

-- The number of sites on the path to the base of which the hart isn't the home.
guests : Plan → TableState → ℕ → ℕ → ℕ → ℕ
guests p t h zero o = 0
guests p t h (suc f) o = cond (eqb o 0) 0 (guest t h o + guests p t h f (parent p o))

guests_zero : (p : Plan) (t : TableState) (h f : ℕ) → guests p t h f 0 ≡ 0
unfolding guests
guests_zero p t h zero = refl
guests_zero p t h (suc f) = refl

guests_step : (p : Plan) (t : TableState) (h f o : ℕ) → o ≢ 0 → guests p t h (suc f) o ≡ guest t h o + guests p t h f (parent p o)
unfolding guests
guests_step p t h f o n = rw (ne_eqb o 0 n) refl

more_fuel : (p : Plan) → IsPlan p → (t : TableState) (h f o : ℕ) → o ≤ f → o ≤ site_count p → guests p t h f o ≡ guests p t h (suc f) o
more_fuel p s t h zero o le high = let z : o ≡ 0 = omega arith in ap (guests p t h zero) z ∙ guests_zero p t h zero ∙ sym (ap (guests p t h (suc zero)) z ∙ guests_zero p t h (suc zero))
more_fuel p s t h (suc f) o le high = dite (ℕ_discrete o 0)
    (λ z. ap (guests p t h (suc f)) z ∙ guests_zero p t h (suc f) ∙ sym (ap (guests p t h (suc (suc f))) z ∙ guests_zero p t h (suc (suc f))))
    (λ n. let b = s.below o (omega arith) high in guests_step p t h f o n ∙ ap (λ (q : ℕ). guest t h o + q) (more_fuel p s t h f (parent p o) (omega arith) (omega arith)) ∙ sym (guests_step p t h (suc f) o n))

abbrev all : Plan → TableState → ℕ → ℕ → ℕ
all p t h o = guests p t h (suc (site_count p)) o

all_zero : (p : Plan) (t : TableState) (h : ℕ) → all p t h 0 ≡ 0
all_zero p t h = guests_zero p t h (suc (site_count p))

all_step : (p : Plan) → IsPlan p → (t : TableState) (h o : ℕ) → 1 ≤ o → o ≤ site_count p → all p t h o ≡ guest t h o + all p t h (parent p o)
all_step p s t h o low high = let b = s.below o low high in guests_step p t h (site_count p) o (λ z. omega arith) ∙ ap (λ (q : ℕ). guest t h o + q) (more_fuel p s t h (site_count p) (parent p o) (omega arith) (omega arith))

-- The base, or a live site.
abbrev IsPath : Plan → TableState → ℕ → Type 0
IsPath p t o = o ≢ 0 → (o ≤ site_count p) × IsLive t o

guests_same : (p : Plan) → IsPlan p → (t u : TableState) (h f o : ℕ) → ((x : ℕ) → 1 ≤ x → x ≤ site_count p → IsLive t x → IsPath p t (parent p x)) → ((x : ℕ) → 1 ≤ x → x ≤ site_count p → IsLive t x → guest u h x ≡ guest t h x)
    → IsPath p t o → guests p u h f o ≡ guests p t h f o
unfolding guests
guests_same p s t u h zero o nested same path = refl
guests_same p s t u h (suc f) o nested same path = dite (ℕ_discrete o 0)
    (λ z. ap (guests p u h (suc f)) z ∙ guests_zero p u h (suc f) ∙ sym (ap (guests p t h (suc f)) z ∙ guests_zero p t h (suc f)))
    (λ n. let r = path n in let low : 1 ≤ o = omega arith in guests_step p u h f o n ∙ ap (λ (q : ℕ). q + guests p u h f (parent p o)) (same o low r.0 r.1)
    ∙ ap (λ (q : ℕ). guest t h o + q) (guests_same p s t u h f (parent p o) nested same (nested o low r.0 r.1)) ∙ sym (guests_step p t h f o n))

-- The sum over the harts below m.
harts_sum : Plan → TableState → ℕ → ℕ
harts_sum p t zero = 0
harts_sum p t (suc m) = all p t m (owner t m) + harts_sum p t m

sum_same : (p : Plan) (t u : TableState) (m : ℕ) → ((g : ℕ) → g < m → all p u g (owner u g) ≡ all p t g (owner t g)) → harts_sum p u m ≡ harts_sum p t m
unfolding harts_sum
sum_same p t u zero f = refl
sum_same p t u (suc m) f = let a = f m (omega arith) in let r = sum_same p t u m (λ g l. f g (omega arith)) in omega arith

sum_one : (p : Plan) (t u : TableState) (m h : ℕ) → h < m → ((g : ℕ) → g < m → g ≢ h → all p u g (owner u g) ≡ all p t g (owner t g)) → harts_sum p u m + all p t h (owner t h) ≡ harts_sum p t m + all p u h (owner u h)
unfolding harts_sum
sum_one p t u zero h lt f = absurd (omega arith)
sum_one p t u (suc m) h lt f = dite (ℕ_discrete h m)
    (λ z. let r = sum_same p t u m (λ g l. f g (omega arith) (λ c. omega arith)) in let a : all p u h (owner u h) ≡ all p u m (owner u m) = ap (λ (q : ℕ). all p u q (owner u q)) z in let b : all p t h (owner t h) ≡ all p t m (owner t m) = ap (λ (q : ℕ). all p t q (owner t q)) z in omega arith)
    (λ n. let r = sum_one p t u m h (omega arith) (λ g l c. f g (omega arith) c) in let a = f m (omega arith) (λ c. n (sym c)) in omega arith)

-- The entries that a site may still get, except the yields of the harts inside.
abbrev due_in : ℕ → ℕ → ℕ → Stage → ℕ
due_in n asked wishes New = 3 * n - 1
due_in n asked wishes Live = 1 + 3 * (n - 1 - asked) + 2 * wishes
due_in n asked wishes Gone = 0

abbrev site_due : ℕ → Row → ℕ
site_due n r = due_in n r.asked r.wishes r.stage

not_both : (g : Stage) → is_new g ≡ true → is_live g ≡ true → ⊥
not_both New a b = cc
not_both Live a b = cc
not_both Gone a b = cc

gone_not_live : (g : Stage) → is_gone g ≡ true → is_live g ≡ true → ⊥
gone_not_live New a b = cc
gone_not_live Live a b = cc
gone_not_live Gone a b = cc

abbrev potential : Plan → TableState → ℕ
potential p t = sum_by (site_due p.harts) t.rows + harts_sum p t p.harts

record Fine (p : Plan) (n : ℕ) (t : TableState) : Type 0 where
  size : Fits p t
  owners : (h : ℕ) → h < p.harts → IsPath p t (owner t h)
  nested : (x : ℕ) → 1 ≤ x → x ≤ site_count p → IsLive t x → IsPath p t (parent p x)
  short : n + potential p t ≤ room p

row_here : (t : TableState) (x : ℕ) (r : Row) → 1 ≤ x → x ≤ length t.rows → slice_index_or (set t.rows (x - 1) r) (x - 1) blank ≡ r
row_here t x r low high = get_or-set_same t.rows (x - 1) r blank (omega arith)

row_else : (t : TableState) (x y : ℕ) (r : Row) → 1 ≤ x → 1 ≤ y → y ≢ x → slice_index_or (set t.rows (x - 1) r) (y - 1) blank ≡ row t y
row_else t x y r low low' n = get_or-set_other t.rows (x - 1) (y - 1) r blank (λ e. n (omega arith))

-- The count for a path of live sites stays if their homes stay.
same_paths : (p : Plan) (n : ℕ) (t u : TableState) → Fine p n t → ((y : ℕ) → 1 ≤ y → y ≤ site_count p → IsLive t y → (row u y).home ≡ (row t y).home) → (g o : ℕ) → IsPath p t o → all p u g o ≡ all p t g o
same_paths p n t u f home g o path = guests_same p f.size.plan t u g (suc (site_count p)) o f.nested (λ x a b live. guest_same t u g x (home x a b live)) path

-- One hart's owner changes.
harts_change : (p : Plan) (n : ℕ) (t u : TableState) (h : ℕ) → Fine p n t → h < p.harts → ((y : ℕ) → 1 ≤ y → y ≤ site_count p → IsLive t y → (row u y).home ≡ (row t y).home) → ((g : ℕ) → g ≢ h → owner u g ≡ owner t g)
    → harts_sum p u p.harts + all p t h (owner t h) ≡ harts_sum p t p.harts + all p u h (owner u h)
harts_change p n t u h f lt home same = sum_one p t u p.harts h lt (λ g l c. ap (all p u g) (same g c) ∙ same_paths p n t u f home g (owner t g) (f.owners g l))

module _ (p : Plan) (n : ℕ) (t : TableState) (f : Fine p n t) where
  s : IsPlan p
  s = f.size.plan

  -- A step changes one row and one owner, and keeps which other sites are live.
  module _ (h x : ℕ) (r : Row) (o : ℕ) (lt : h < p.harts) (low : 1 ≤ x) (high : x ≤ site_count p) where
    abbrev u : TableState
    u = record { owners = set t.owners h o; rows = set t.rows (x - 1) r }

    inside : x ≤ length t.rows
    inside = let z = f.size.rows in omega arith

    here : row u x ≡ r
    here = row_here t x r low inside

    rows : (y : ℕ) → 1 ≤ y → y ≢ x → row u y ≡ row t y
    rows y a m = row_else t x y r low a m

    others : (g : ℕ) → g ≢ h → owner u g ≡ owner t g
    others g m = get_or-set_other t.owners h g o 0 m

    own : owner u h ≡ o
    own = get_or-set_same t.owners h o 0 (let z = f.size.owners in omega arith)

    size : Fits p u
    size = record { plan = s; owners = length-set t.owners h o ∙ f.size.owners; rows = length-set t.rows (x - 1) r ∙ f.size.rows }

    dues : sum_by (site_due p.harts) u.rows + site_due p.harts (row t x) ≡ sum_by (site_due p.harts) t.rows + site_due p.harts r
    dues = sum_by-set (site_due p.harts) t.rows (x - 1) r blank (omega (arith, inside))

    stays : (y : ℕ) → 1 ≤ y → IsLive t y → (y ≡ x → is_live r.stage ≡ true) → IsLive u y
    stays y a live same = dite (ℕ_discrete y x)
        (λ z. let Q : ℕ → Type 0 = λ q. IsLive u q in subst Q (sym z) (ap (λ (q : Row). is_live q.stage) here ∙ same z))
        (λ m. ap (λ (q : Row). is_live q.stage) (rows y a m) ∙ live)

    path_stays : (y : ℕ) → IsPath p t y → (y ≡ x → is_live r.stage ≡ true) → IsPath p u y
    path_stays y path same nonzero = let z = path nonzero in (z.0, stays y (omega arith) z.1 same)

    -- The row is live after the step.
    live_step : is_live r.stage ≡ true → (IsLive t x → r.home ≡ (row t x).home) → IsPath p u o → IsPath p u (parent p x)
        → suc n + sum_by (site_due p.harts) u.rows + all p u h o ≤ n + sum_by (site_due p.harts) t.rows + all p t h (owner t h) → Fine p (suc n) u
    live_step live home path up less =
        let homes : (y : ℕ) → 1 ≤ y → y ≤ site_count p → IsLive t y → (row u y).home ≡ (row t y).home = λ y a b l. dite (ℕ_discrete y x)
        (λ z. ap (λ (q : ℕ). (row u q).home) z ∙ (ap (λ (q : Row). q.home) here ∙ (home (subst (λ (q : ℕ). IsLive t q) z l) ∙ ap (λ (q : ℕ). (row t q).home) (sym z))))
        (λ m. ap (λ (q : Row). q.home) (rows y a m)) in
        let sum = harts_change p n t u h f lt homes others in
        let mine : all p u h (owner u h) ≡ all p u h o = ap (all p u h) own in
        let old = f.short in record {
          size = size;
          owners = λ g l. dite (ℕ_discrete g h)
              (λ z. let Q : ℕ → Type 0 = λ q. IsPath p u q in subst Q (sym (ap (owner u) z ∙ own)) path)
              (λ m. let Q : ℕ → Type 0 = λ q. IsPath p u q in subst Q (sym (others g m)) (path_stays (owner t g) (f.owners g l) (λ _. live)));
          nested = λ y a b l. dite (ℕ_discrete y x)
              (λ z. let Q : ℕ → Type 0 = λ q. IsPath p u (parent p q) in subst Q (sym z) up)
              (λ m. path_stays (parent p y) (f.nested y a b (sym (ap (λ (q : Row). is_live q.stage) (rows y a m)) ∙ l)) (λ _. live));
          short = omega arith;
        }

  register_fine : (h x : ℕ) → IsAllowed p t (Register h x) → Fine p (suc n) (effect_of p t (Register h x))
  register_fine h x a =
      let lt = a.0 in let low = a.1.0 in let high = a.1.1 in
      let r : Row = record { stage = Live; home = Some h; wishes = 0; asked = 0 } in
      let w : TableState = effect_of p t (Register h x) in
      let new = a.3 in
      let not_live : IsLive t x → ⊥ = not_both (row t x).stage (ap is_new a.3) in
      let homes : (y : ℕ) → 1 ≤ y → y ≤ site_count p → IsLive t y → (row w y).home ≡ (row t y).home = λ y b c l. ap (λ (q : Row). q.home) (rows h x r x lt low high y b (λ z. not_live (subst (λ (q : ℕ). IsLive t q) z l))) in
      let path : IsPath p t (parent p x) = subst (λ (q : ℕ). IsPath p t q) a.2 (f.owners h lt) in
      let up : all p w h (parent p x) ≡ all p t h (owner t h) = same_paths p n t w f homes h (parent p x) path ∙ ap (all p t h) (sym a.2) in
      let step = all_step p s w h x low high in
      let mine : guest w h x ≡ 0 = guest_home w h x (ap (λ (q : Row). is_home q.home h) (here h x r x lt low high) ∙ eq-eqb h h refl) in
      let sum = dues h x r x lt low high in
      let due : site_due p.harts (row t x) ≡ 3 * p.harts - 1 = ap (due_in p.harts (row t x).asked (row t x).wishes) new in
      let harts = s.some_hart in
      live_step h x r x lt low high refl (λ l. absurd (not_live l)) (λ _. (high, ap (λ (q : Row). is_live q.stage) (here h x r x lt low high))) (path_stays h x r x lt low high (parent p x) path (λ _. refl)) (omega arith)

  request_fine : (h x k : ℕ) → IsAllowed p t (Request h x k) → Fine p (suc n) (record { owners = set t.owners h x; rows = set t.rows (x - 1) record (row t x) { wishes = (row t x).wishes + k; asked = (row t x).asked + k } })
  request_fine h x k a =
      let lt = a.0 in let low = a.1.0 in let high = a.1.1 in
      let r : Row = record (row t x) { wishes = (row t x).wishes + k; asked = (row t x).asked + k } in
      let path : IsPath p t x = subst (λ (q : ℕ). IsPath p t q) a.2 (f.owners h lt) in
      let live : IsLive t x = (path (λ z. omega arith)).1 in
      let w : TableState = u h x r x lt low high in
      let homes : (y : ℕ) → 1 ≤ y → y ≤ site_count p → IsLive t y → (row w y).home ≡ (row t y).home = λ y b c l. dite (ℕ_discrete y x) (λ z. ap (λ (q : ℕ). (row w q).home) z ∙ (ap (λ (q : Row). q.home) (here h x r x lt low high) ∙ ap (λ (q : ℕ). (row t q).home) (sym z))) (λ m. ap (λ (q : Row). q.home) (rows h x r x lt low high y b m)) in
      let same : all p w h x ≡ all p t h (owner t h) = same_paths p n t w f homes h x path ∙ ap (all p t h) (sym a.2) in
      let sum = dues h x r x lt low high in
      let st = live_is (row t x).stage live in
      let due : site_due p.harts (row t x) ≡ 1 + 3 * (p.harts - 1 - (row t x).asked) + 2 * (row t x).wishes = ap (due_in p.harts (row t x).asked (row t x).wishes) st in
      let due' : site_due p.harts r ≡ 1 + 3 * (p.harts - 1 - ((row t x).asked + k)) + 2 * ((row t x).wishes + k) = ap (due_in p.harts ((row t x).asked + k) ((row t x).wishes + k)) st in
      let few = a.5 in let some_count = a.4 in
      live_step h x r x lt low high live (λ _. refl) (path_stays h x r x lt low high x path (λ _. live)) (path_stays h x r x lt low high (parent p x) (f.nested x low high live) (λ _. live)) (omega arith)

  enter_fine : (h x : ℕ) → IsAllowed p t (Enter h x) → Fine p (suc n) (effect_of p t (Enter h x))
  enter_fine h x a =
      let lt = a.0 in let low = a.1.0 in let high = a.1.1 in let live = ap is_live a.3 in
      let r : Row = record (row t x) { wishes = (row t x).wishes - 1 } in
      let w : TableState = effect_of p t (Enter h x) in
      let homes : (y : ℕ) → 1 ≤ y → y ≤ site_count p → IsLive t y → (row w y).home ≡ (row t y).home = λ y b c l. dite (ℕ_discrete y x) (λ z. ap (λ (q : ℕ). (row w q).home) z ∙ (ap (λ (q : Row). q.home) (here h x r x lt low high) ∙ ap (λ (q : ℕ). (row t q).home) (sym z))) (λ m. ap (λ (q : Row). q.home) (rows h x r x lt low high y b m)) in
      let up : all p w h (parent p x) ≡ all p t h (owner t h) = same_paths p n t w f homes h (parent p x) (f.nested x low high live) ∙ ap (all p t h) (sym a.2) in
      let step = all_step p s w h x low high in let mine = guest_few w h x in
      let sum = dues h x r x lt low high in
      let st = live_is (row t x).stage live in
      let due : site_due p.harts (row t x) ≡ 1 + 3 * (p.harts - 1 - (row t x).asked) + 2 * (row t x).wishes = ap (due_in p.harts (row t x).asked (row t x).wishes) st in
      let due' : site_due p.harts r ≡ 1 + 3 * (p.harts - 1 - (row t x).asked) + 2 * ((row t x).wishes - 1) = ap (due_in p.harts (row t x).asked ((row t x).wishes - 1)) st in
      let wish = a.4 in
      live_step h x r x lt low high live (λ _. refl) (λ _. (high, ap (λ (q : Row). is_live q.stage) (here h x r x lt low high) ∙ live)) (path_stays h x r x lt low high (parent p x) (f.nested x low high live) (λ _. live)) (omega arith)

  yield_fine : (h x : ℕ) → IsAllowed p t (Yield h x) → Fine p (suc n) (record { owners = set t.owners h (parent p x); rows = set t.rows (x - 1) (row t x) })
  yield_fine h x a =
      let lt = a.0 in let low = a.1.0 in let high = a.1.1 in
      let r : Row = row t x in let o : ℕ = parent p x in
      let path : IsPath p t x = subst (λ (q : ℕ). IsPath p t q) a.2 (f.owners h lt) in
      let live : IsLive t x = (path (λ z. omega arith)).1 in
      let w : TableState = u h x r o lt low high in
      let homes : (y : ℕ) → 1 ≤ y → y ≤ site_count p → IsLive t y → (row w y).home ≡ (row t y).home = λ y b c l. dite (ℕ_discrete y x) (λ z. ap (λ (q : ℕ). (row w q).home) z ∙ (ap (λ (q : Row). q.home) (here h x r o lt low high) ∙ ap (λ (q : ℕ). (row t q).home) (sym z))) (λ m. ap (λ (q : Row). q.home) (rows h x r o lt low high y b m)) in
      let up : all p w h o ≡ all p t h o = same_paths p n t w f homes h o (f.nested x low high live) in
      let step = all_step p s t h x low high in let mine = guest_other t h x (not_home (row t x).home h a.3) in
      let same : all p t h (owner t h) ≡ all p t h x = ap (all p t h) a.2 in
      let sum = dues h x r o lt low high in
      live_step h x r o lt low high live (λ _. refl) (path_stays h x r o lt low high o (f.nested x low high live) (λ _. live)) (path_stays h x r o lt low high o (f.nested x low high live) (λ _. live)) (omega arith)

  unregister_fine : (h x : ℕ) → IsAllowed p t (Unregister h x) → Fine p (suc n) (effect_of p t (Unregister h x))
  unregister_fine h x a =
      let lt = a.0 in let low = a.1.0 in let high = a.1.1 in
      let r : Row = record (row t x) { stage = Gone } in let o : ℕ = parent p x in
      let path : IsPath p t x = subst (λ (q : ℕ). IsPath p t q) a.2 (f.owners h lt) in
      let live : IsLive t x = (path (λ z. omega arith)).1 in
      let w : TableState = effect_of p t (Unregister h x) in
      let inner : x ≤ length t.rows = inside h x r o lt low high in
      let homes : (y : ℕ) → 1 ≤ y → y ≤ site_count p → IsLive t y → (row w y).home ≡ (row t y).home = λ y b c l. dite (ℕ_discrete y x) (λ z. ap (λ (q : ℕ). (row w q).home) z ∙ (ap (λ (q : Row). q.home) (here h x r o lt low high) ∙ ap (λ (q : ℕ). (row t q).home) (sym z))) (λ m. ap (λ (q : Row). q.home) (rows h x r o lt low high y b m)) in
      let below = s.below x low high in
      let up : all p w h o ≡ all p t h o = same_paths p n t w f homes h o (f.nested x low high live) in
      let step = all_step p s t h x low high in
      let same : all p t h (owner t h) ≡ all p t h x = ap (all p t h) a.2 in
      let sum = dues h x r o lt low high in
      let st = live_is (row t x).stage live in
      let due : site_due p.harts (row t x) ≡ 1 + 3 * (p.harts - 1 - (row t x).asked) + 2 * (row t x).wishes = ap (due_in p.harts (row t x).asked (row t x).wishes) st in
      let change = harts_change p n t w h f lt homes (others h x r o lt low high) in
      let mine : all p w h (owner w h) ≡ all p w h o = ap (all p w h) (own h x r o lt low high) in
      let old = f.short in
      let gone : is_live (row w x).stage ≡ true → ⊥ = λ l. let g : (row w x).stage ≡ Gone = ap (λ (q : Row). q.stage) (here h x r o lt low high) in cc in
      -- The base, or a live site other than x, stays so.
      let way : (y : ℕ) → IsPath p t y → (y ≢ 0 → y ≢ x) → IsPath p w y = λ y q apart nonzero. let z = q nonzero in (z.0, ap (λ (c : Row). is_live c.stage) (rows h x r o lt low high y (omega arith) (apart nonzero)) ∙ z.1) in
      record {
        size = size h x r o lt low high;
        owners = λ g l. dite (ℕ_discrete g h)
            (λ z. let Q : ℕ → Type 0 = λ q. IsPath p w q in subst Q (sym (ap (owner w) z ∙ own h x r o lt low high)) (way o (f.nested x low high live) (λ _ c. omega arith)))
            (λ m. let Q : ℕ → Type 0 = λ q. IsPath p w q in subst Q (sym (others h x r o lt low high g m)) (way (owner t g) (f.owners g l) (λ _. a.4 g l m)));
        nested = λ y b c l. dite (ℕ_discrete y x)
            (λ z. absurd (gone (subst (λ (q : ℕ). is_live (row w q).stage ≡ true) z l)))
            (λ m. let was : IsLive t y = sym (ap (λ (q : Row). is_live q.stage) (rows h x r o lt low high y b m)) ∙ l in
            way (parent p y) (f.nested y b c was) (λ _ up'. gone_not_live (row t y).stage (ap is_gone (a.5 y (b, c) up')) was));
        short = omega arith;
      }

  -- A live site isn't within a new one.
  not_within : (x : ℕ) → IsSite p x → (row t x).stage ≡ New → (m y : ℕ) → y ≤ m → y ≤ site_count p → IsLive t y → is_within p x y ≡ false
  not_within x site new m y le high live = by_cases (is_within p x y) refl
    where
      new_all : (m y : ℕ) → y ≤ m → y ≤ site_count p → is_within p x y ≡ true → IsLive t y → ⊥
      new_all m y le high w = within_all p s x (λ o. IsLive t o → ⊥) (not_both (row t x).stage (ap is_new new))
          (λ c c_site w' up live'. dite (ℕ_discrete (parent p c) 0)
          (λ z. let f' : is_within p x 0 ≡ false = within-below p x 0 site.0 in let t' : true ≡ false = sym w' ∙ (ap (is_within p x) z ∙ f') in cc)
          (λ n'. up (f.nested c c_site.0 c_site.1 live' n').1)) m y le high w

      by_cases : (b : Bool) → is_within p x y ≡ b → is_within p x y ≡ false
      by_cases true w = absurd (new_all m y le high w live)
      by_cases false w = w

  -- A skip doesn't raise the number of due entries.
  sweep_due : (x : ℕ) (rs : List Row) (k : ℕ) → sum_by (site_due p.harts) (swept p x rs k) ≤ sum_by (site_due p.harts) rs
  sweep_due x [] k = omega arith
  sweep_due x (r ∷ rs) k = split (is_within p x k) (sweep_due x rs (k + 1))
    where
      split : (b : Bool) → sum_by (site_due p.harts) (swept p x rs (k + 1)) ≤ sum_by (site_due p.harts) rs → sum_by (site_due p.harts) ((if b then swept_row r else r) ∷ swept p x rs (k + 1)) ≤ sum_by (site_due p.harts) (r ∷ rs)
      split true le = let a = sum_by-append (site_due p.harts) (swept_row r ∷ []) (swept p x rs (k + 1)) in let b = sum_by-append (site_due p.harts) (r ∷ []) rs in omega arith
      split false le = let a = sum_by-append (site_due p.harts) (r ∷ []) (swept p x rs (k + 1)) in let b = sum_by-append (site_due p.harts) (r ∷ []) rs in omega arith

  skip_fine : (h x : ℕ) → IsAllowed p t (Skip h x) → Fine p (suc n) (effect_of p t (Skip h x))
  skip_fine h x a =
      let low = a.1.0 in let high = a.1.1 in
      let w : TableState = effect_of p t (Skip h x) in
      let inner : x - 1 < length t.rows = let z = f.size.rows in omega arith in
      let rows_stay : (y : ℕ) → 1 ≤ y → y ≤ site_count p → IsLive t y → row w y ≡ row t y = λ y b c l. row-effect_other p t (Skip h x) y f.size a (b, c) (λ z. not_both (row t x).stage (ap is_new a.3) (subst (λ (q : ℕ). IsLive t q) z l)) (not_within x a.1 a.3 y y (omega arith) c l) in
      let homes : (y : ℕ) → 1 ≤ y → y ≤ site_count p → IsLive t y → (row w y).home ≡ (row t y).home = λ y b c l. ap (λ (q : Row). q.home) (rows_stay y b c l) in
      let way : (y : ℕ) → IsPath p t y → IsPath p w y = λ y q nonzero. let z = q nonzero in (z.0, ap (λ (q : Row). is_live q.stage) (rows_stay y (omega arith) z.0 z.1) ∙ z.1) in
      let was_live : (y : ℕ) → 1 ≤ y → y ≤ site_count p → IsLive w y → IsLive t y = λ y b c l. at_site p t (Skip h x) y (λ z r. is_live r.stage ≡ true → IsLive t z) f.size a (b, c) (λ l'. absurd (cc)) (λ _ _ l'. l') (λ _ _ l'. absurd (cc)) l in
      let harts : harts_sum p w p.harts ≡ harts_sum p t p.harts = sum_same p t w p.harts (λ g l. same_paths p n t w f homes g (owner t g) (f.owners g l)) in
      let once = sum_by-set (site_due p.harts) t.rows (x - 1) (swept_row (row t x)) blank inner in
      let same : sum_by (site_due p.harts) (swept p x (set t.rows (x - 1) (swept_row (row t x))) 1) ≡ sum_by (site_due p.harts) (swept p x t.rows 1) = let e : 1 + (x - 1) ≡ x = omega arith in ap (sum_by (site_due p.harts)) (swept-set p x t.rows 1 (x - 1) blank inner (ap (is_within p x) e ∙ within-itself p x)) in
      let less = sweep_due x (set t.rows (x - 1) (swept_row (row t x))) 1 in
      let due : site_due p.harts (row t x) ≡ 3 * p.harts - 1 = ap (due_in p.harts (row t x).asked (row t x).wishes) a.3 in
      let some = s.some_hart in let old = f.short in record {
        size = fits_effect p t (Skip h x) f.size;
        owners = λ g l. way (owner t g) (f.owners g l);
        nested = λ y b c l. way (parent p y) (f.nested y b c (was_live y b c l));
        short = omega arith;
      }

fine_step : (p : Plan) (n : ℕ) (t u : TableState) (e : Entry) → Fine p n t → IsAllowed p t e → u ≡ effect_of p t e → Fine p (suc n) u
fine_step p n t u (Register h x) f a is = subst (Fine p (suc n)) (sym is) (register_fine p n t f h x a)
fine_step p n t u (Request h x k) f a is = subst (Fine p (suc n)) (sym is) (let same : set t.owners h x ≡ t.owners = ap (set t.owners h) (sym a.2) ∙ set-get_or t.owners h 0 in
    let Q : List ℕ → Type 0 = λ q. Fine p (suc n) record { owners = q; rows = set t.rows (x - 1) record (row t x) { wishes = (row t x).wishes + k; asked = (row t x).asked + k } } in subst Q same (request_fine p n t f h x k a))
fine_step p n t u (Enter h x) f a is = subst (Fine p (suc n)) (sym is) (enter_fine p n t f h x a)
fine_step p n t u (Yield h x) f a is = subst (Fine p (suc n)) (sym is) (let same : set t.rows (x - 1) (row t x) ≡ t.rows = set-get_or t.rows (x - 1) blank in
    let Q : List Row → Type 0 = λ q. Fine p (suc n) record { owners = set t.owners h (parent p x); rows = q } in subst Q same (yield_fine p n t f h x a))
fine_step p n t u (Unregister h x) f a is = subst (Fine p (suc n)) (sym is) (unregister_fine p n t f h x a)
fine_step p n t u (Skip h x) f a is = subst (Fine p (suc n)) (sym is) (skip_fine p n t f h x a)

no_guests : (p : Plan) (m : ℕ) → harts_sum p (first_state p) m ≡ 0
unfolding harts_sum
no_guests p zero = refl
no_guests p (suc m) = let r = no_guests p m in let a : all p (first_state p) m (owner (first_state p) m) ≡ 0 = ap (all p (first_state p) m) (replicate_at p.harts m 0) ∙ all_zero p (first_state p) m in omega arith

fine_first : (p : Plan) → IsPlan p → Fine p 0 (first_state p)
fine_first p plan = record {
  size = fits_first p plan;
  owners = λ h l nonzero. absurd (nonzero (replicate_at p.harts h 0));
  nested = λ x a b live. absurd (let new : (row (first_state p) x).stage ≡ New = ap (λ (r : Row). r.stage) (replicate_at (site_count p) (x - 1) blank) in cc);
  short = let a = sum_by-replicate (site_due p.harts) (site_count p) blank in let b = no_guests p p.harts in omega arith;
}

fine : (p : Plan) → IsPlan p → (es : List Entry) (t : TableState) → Reaches p es t → Fine p (length es) t
fine p plan es t is = lasts p plan (λ l u. Fine p (length l) u) (fine_first p plan) (λ l u e leads fits f a. subst (λ (n : ℕ). Fine p n (effect_of p u e)) (let z = length-append l (e ∷ []) in omega arith) (fine_step p (length l) u (effect_of p u e) e f a refl)) es t is

-- A legal list has at most as many entries as its plan has room for.
pub legal_length : (p : Plan) → IsPlan p → (es : List Entry) (t : TableState) → Reaches p es t → length es ≤ room p
legal_length p plan es t is = let f = fine p plan es t is in let b = f.short in omega arith

-- Each legal list has at most `most_entries` entries.
pub few_entries : (p : Plan) → IsPlan p → (es : List Entry) (t : TableState) → Reaches p es t → length es ≤ most_entries
few_entries p plan es t is = let long = legal_length p plan es t is in let short = plan.short in omega (arith, long, short)

-- A legal list that admits one more entry is shorter than the room.
pub legal_room : (p : Plan) → IsPlan p → (es : List Entry) (t u : TableState) (e : Entry) → Reaches p es t → admit_of p t e ≡ Ok u → length es < room p
legal_room p plan es t u e leads is = let f = legal_length p plan (es ++ e ∷ []) u (reaches-snoc p es e t u leads is) in let n = length-append es (e ∷ []) in omega arith

live_path : (p : Plan) (t : TableState) (o : ℕ) → IsPath p t o → IsBaseOrLive p t o
live_path p t o path = dite (ℕ_discrete o 0) (λ z. inl z) (λ n. inr (let r = path n in ((omega arith, r.0), live_is (row t o).stage r.1)))

-- Each owner is the base or a live site.
pub legal_owner : (p : Plan) → IsPlan p → (es : List Entry) (t : TableState) → Reaches p es t → (h : ℕ) → IsHart p h → IsBaseOrLive p t (owner t h)
legal_owner p plan es t is h lt = live_path p t (owner t h) ((fine p plan es t is).owners h lt)

-- The parent of a live site is the base or a live site.
pub legal_parent : (p : Plan) → IsPlan p → (es : List Entry) (t : TableState) → Reaches p es t → (x : ℕ) → IsSite p x → (row t x).stage ≡ Live → IsBaseOrLive p t (parent p x)
legal_parent p plan es t is x site live = live_path p t (parent p x) ((fine p plan es t is).nested x site.0 site.1 (ap is_live live))
