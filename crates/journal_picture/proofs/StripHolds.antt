-- The laws of the strip hold.
use Rattle.std.proofs.Common.{◌≡◌, ◌≢◌, ℕ, zero, suc, ◌+◌, ◌-◌, ◌≤◌, ◌==◌, cond, Bool, true, false, List, [], ◌∷◌, length, take, Some, Result, Ok, Err, refl, sym, ap, subst, arith}
use Rattle.std.specs.Prelude.{slice_get, nat_le, ◌&&◌, ◌||◌}
use Rattle.std.proofs.lemmas.Bool.Decides.{nat_tests}
use Rattle.transfer_table.specs.Plan.{Plan, parent, site_count}
use Rattle.transfer_table.specs.Counts.{one_if}
use Rattle.transfer_table.specs.Table.{TableState, admit_of, first_state, is_live, owner, row}
use Rattle.transfer_table.specs.Journal.{replay_from, and_then}
use Rattle.transfer_table.specs.declared.entry.Row.{Row}
use Rattle.transfer_table.specs.declared.entry.Stage.{Stage}
use Rattle.transfer_table.specs.declared.entry.Stage.TheVariants.{New, Live, Gone}
use Rattle.transfer_table.specs.declared.entry.Entry.{Entry}
use Rattle.transfer_table.specs.declared.entry.NotAdmitted.{NotAdmitted}
use Rattle.journal_picture.specs.Drawn.{or_same}
use Rattle.journal_picture.specs.Strip.{unmet_of, idle_up_to, is_wishing, wishing_up_to, idle_in, figures_of, strip_from, StripHasFigures, RedIsMissed, SomeIdle, SomeWish}

-- ---- the strip has the figures of each state
strip_at : (p : Plan) (es : List Entry) (k : ℕ) (t u : TableState) → k ≤ length es → replay_from p t (take k es) ≡ Ok u
    → slice_get (strip_from p t es) k ≡ Some (figures_of p u)
strip_at p [] zero t u short is = let same : t ≡ u = cc in ap (λ (w : TableState). Some (figures_of p w)) same
strip_at p [] (suc k) t u short is = absurd (omega arith)
strip_at p (e ∷ es) zero t u short is = let same : t ≡ u = cc in ap (λ (w : TableState). Some (figures_of p w)) same
strip_at p (e ∷ es) (suc k) t u short is = go (admit_of p t e) refl is (λ v more. strip_at p es k v u (omega arith) more)
  where
    go : (r : Result TableState NotAdmitted) → admit_of p t e ≡ r → and_then (λ v. replay_from p v (take k es)) r ≡ Ok u
        → ((v : TableState) → replay_from p v (take k es) ≡ Ok u → slice_get (strip_from p v es) k ≡ Some (figures_of p u))
        → slice_get (strip_from p t (e ∷ es)) (suc k) ≡ Some (figures_of p u)
    go (Ok v) same more next = subst (λ (r : Result TableState NotAdmitted). slice_get (strip_from p (or_same t r) es) k ≡ Some (figures_of p u)) (sym same) (next v more)
    go (Err f) same more next = absurd (cc)

pub strip_has : StripHasFigures
strip_has p es k t short leads = strip_at p es k (first_state p) t short leads

-- ---- idle harts
idle_some : (t : TableState) (n : ℕ) → 1 ≤ idle_up_to t n → (h : ℕ) × (1 ≤ h) × (h ≤ n) × (owner t h ≡ 0)
idle_some t zero some = absurd (omega arith)
idle_some t (suc n) some = go (owner t (suc n) == 0) refl some (λ before. idle_some t n before)
  where
    go : (b : Bool) → (owner t (suc n) == 0) ≡ b → 1 ≤ idle_up_to t n + one_if b → (1 ≤ idle_up_to t n → (h : ℕ) × (1 ≤ h) × (h ≤ n) × (owner t h ≡ 0))
        → (h : ℕ) × (1 ≤ h) × (h ≤ suc n) × (owner t h ≡ 0)
    go true here some next = (suc n, omega arith, omega arith, grind (arith, nat_tests))
    go false here some next = let more = next (omega arith) in (more.0, more.1, omega (arith, more.2), more.3)

idle_any : (t : TableState) (n h : ℕ) → 1 ≤ h → h ≤ n → owner t h ≡ 0 → 1 ≤ idle_up_to t n
idle_any t zero h low high is = absurd (omega arith)
idle_any t (suc n) h low high is = go (h == suc n) refl (λ less. idle_any t n h low less is)
  where
    go : (b : Bool) → (h == suc n) ≡ b → (h ≤ n → 1 ≤ idle_up_to t n) → 1 ≤ idle_up_to t (suc n)
    go true same next =
        let here : h ≡ suc n = grind (arith, nat_tests) in
        let base : owner t (suc n) ≡ 0 = subst (λ (g : ℕ). owner t g ≡ 0) here is in
        let one : one_if (owner t (suc n) == 0) ≡ 1 = rw base refl in
        omega (arith, one)
    go false same next =
        let less : h ≤ n = grind (arith, nat_tests) in
        let more = next less in
        omega (arith, more)

-- ---- wishes of children of the base
unmet_live : (found : Row) → 1 ≤ unmet_of found → (found.stage ≡ Live) × (1 ≤ found.wishes)
unmet_live found some = go found.stage refl some
  where
    go : (stage : Stage) → found.stage ≡ stage → 1 ≤ cond (is_live stage) found.wishes 0 → (found.stage ≡ Live) × (1 ≤ found.wishes)
    go New is some = absurd (omega arith)
    go Live is some = (is, some)
    go Gone is some = absurd (omega arith)

live_unmet : (found : Row) → found.stage ≡ Live → unmet_of found ≡ found.wishes
live_unmet found is = rw is refl

both : (q u : ℕ) → ((q == 0) && nat_le 1 u) ≡ true → (q ≡ 0) × (1 ≤ u)
both q u is = go (q == 0) refl (nat_le 1 u) refl is
  where
    go : (a : Bool) → (q == 0) ≡ a → (b : Bool) → nat_le 1 u ≡ b → (a && b) ≡ true → (q ≡ 0) × (1 ≤ u)
    go true first true second is = (grind (arith, nat_tests), grind (arith, nat_tests))
    go true first false second is = absurd (cc)
    go false first b second is = absurd (cc)

wishing_some : (p : Plan) (t : TableState) (n : ℕ) → wishing_up_to p t n ≡ true
    → (s : ℕ) × (1 ≤ s) × (s ≤ n) × (parent p s ≡ 0) × ((row t s).stage ≡ Live) × (1 ≤ (row t s).wishes)
wishing_some p t zero is = absurd (cc)
wishing_some p t (suc n) is = go (wishing_up_to p t n) refl is (λ before. wishing_some p t n before)
  where
    go : (b : Bool) → wishing_up_to p t n ≡ b → (b || is_wishing p t (suc n)) ≡ true
        → (wishing_up_to p t n ≡ true → (s : ℕ) × (1 ≤ s) × (s ≤ n) × (parent p s ≡ 0) × ((row t s).stage ≡ Live) × (1 ≤ (row t s).wishes))
        → (s : ℕ) × (1 ≤ s) × (s ≤ suc n) × (parent p s ≡ 0) × ((row t s).stage ≡ Live) × (1 ≤ (row t s).wishes)
    go true before is next = let more = next before in (more.0, more.1, omega (arith, more.2), more.3, more.4, more.5)
    go false before is next =
        let here = both (parent p (suc n)) (unmet_of (row t (suc n))) is in
        let live = unmet_live (row t (suc n)) here.1 in
        (suc n, omega arith, omega arith, here.0, live.0, live.1)

or_true : (b : Bool) → (b || true) ≡ true
or_true true = refl
or_true false = refl

is_true : (q u : ℕ) → q ≡ 0 → 1 ≤ u → ((q == 0) && nat_le 1 u) ≡ true
is_true q u base some = grind (arith, nat_tests)

wishing_any : (p : Plan) (t : TableState) (n s : ℕ) → 1 ≤ s → s ≤ n → parent p s ≡ 0 → (row t s).stage ≡ Live → 1 ≤ (row t s).wishes → wishing_up_to p t n ≡ true
wishing_any p t zero s low high base live some = absurd (omega arith)
wishing_any p t (suc n) s low high base live some = go (s == suc n) refl (λ less. wishing_any p t n s low less base live some)
  where
    go : (b : Bool) → (s == suc n) ≡ b → (s ≤ n → wishing_up_to p t n ≡ true) → wishing_up_to p t (suc n) ≡ true
    go true same next =
        let here : s ≡ suc n = grind (arith, nat_tests) in
        let unmet : 1 ≤ unmet_of (row t s) = subst (λ (n : ℕ). 1 ≤ n) (sym (live_unmet (row t s) live)) some in
        let is : is_wishing p t (suc n) ≡ true = subst (λ (g : ℕ). is_wishing p t g ≡ true) here (is_true (parent p s) (unmet_of (row t s)) base unmet) in
        subst (λ (b : Bool). (wishing_up_to p t n || b) ≡ true) (sym is) (or_true (wishing_up_to p t n))
    go false same next =
        let less : s ≤ n = grind (arith, nat_tests) in
        let before = next less in
        subst (λ (b : Bool). (b || is_wishing p t (suc n)) ≡ true) (sym before) refl

-- ---- the strip is red exactly where a wish is missed
split : (a b : Bool) → (a && b) ≡ true → (a ≡ true) × (b ≡ true)
split true b is = (refl, is)
split false b is = absurd (cc)

join : (a b : Bool) → a ≡ true → b ≡ true → (a && b) ≡ true
join a b first second = subst (λ (x : Bool). (x && b) ≡ true) (sym first) second

le_true : (u : ℕ) → nat_le 1 u ≡ true → 1 ≤ u
le_true u is = grind (arith, nat_tests)

true_le : (u : ℕ) → 1 ≤ u → nat_le 1 u ≡ true
true_le u some = grind (arith, nat_tests)

seen : (p : Plan) (t : TableState) → (figures_of p t).missed ≡ true → SomeIdle p t × SomeWish p t
seen p t is =
    let parts = split (nat_le 1 (idle_in p t)) (wishing_up_to p t (site_count p)) is in
    let idle = idle_some t (p.harts - 1) (le_true (idle_in p t) parts.0) in
    let wish = wishing_some p t (site_count p) parts.1 in
    ((idle.0, omega (arith, idle.1, idle.2), not_base idle.0 idle.1, idle.3), (wish.0, (wish.1, wish.2), wish.3, wish.4, wish.5))
  where
    not_base : (h : ℕ) → 1 ≤ h → h ≢ 0
    not_base h low = λ is. omega (arith, low, is)

shown : (p : Plan) (t : TableState) → SomeIdle p t × SomeWish p t → (figures_of p t).missed ≡ true
shown p t is =
    let idle = is.0 in
    let wish = is.1 in
    let low : 1 ≤ idle.0 = not_zero idle.0 idle.2 in
    let some = idle_any t (p.harts - 1) idle.0 low (omega (arith, idle.1, low)) idle.3 in
    join (nat_le 1 (idle_in p t)) (wishing_up_to p t (site_count p)) (true_le (idle_in p t) some)
    (wishing_any p t (site_count p) wish.0 wish.1.0 wish.1.1 wish.2 wish.3 wish.4)
  where
    not_zero : (h : ℕ) → h ≢ 0 → 1 ≤ h
    not_zero zero n = absurd (n refl)
    not_zero (suc h) n = omega arith

pub red_missed : RedIsMissed
red_missed p t = (seen p t, shown p t)
