-- Where the unmet wishes are, and that the other sites need no look.
use Rattle.std.proofs.Common.{◌≡◌, ◌≢◌, ℕ, zero, suc, ◌+◌, ◌-◌, ◌<◌, ◌≤◌, ◌==◌, Bool, true, false, List, [], ◌∷◌, Option, Some, None, get_or-set_other, replicate, refl, sym, ap, subst, ◌∙◌, arith}
use Rattle.std.specs.Prelude.{slice_index_or, slice_set, nat_le, if◌then◌else◌, ◌&&◌, ◌||◌}
use Rattle.std.proofs.lemmas.Bool.Decides.{nat_tests}
use Rattle.transfer_table.specs.Plan.{Plan, parent, site_count, is_within}
use Rattle.transfer_table.specs.Causes.{first_cause}
use Rattle.transfer_table.specs.Entry.{site_of}
use Rattle.transfer_table.specs.Table.{TableState, admit_of, blank, effect_of, first_state, refusals_of, row, swept, swept_row, unless_refused}
use Rattle.transfer_table.specs.declared.entry.Row.{Row}
use Rattle.transfer_table.specs.declared.entry.Entry.{Entry}
use Rattle.transfer_table.specs.declared.entry.Entry.TheVariants.{Register, Request, Enter, Yield, Unregister, Skip}
use Rattle.transfer_table.specs.declared.entry.NotAdmitted.{NotAdmitted}
use Rattle.journal_picture.specs.Drawn.{or_same}
use Rattle.journal_picture.specs.Strip.{HasWishesWithin, unmet_of, unmet_up_to, is_wishing, wishing_up_to}

-- ---- at first no site has a wish
blank_at : (n i : ℕ) → unmet_of (slice_index_or (replicate n blank) i blank) ≡ 0
blank_at zero i = refl
blank_at (suc n) zero = refl
blank_at (suc n) (suc i) = blank_at n i

pub first_wishes : (p : Plan) → HasWishesWithin p (first_state p) 0 0
first_wishes p = record {
  order = omega arith;
  fits = omega arith;
  below = λ s low high. absurd (omega (arith, low, high));
  above = λ s low high. blank_at (site_count p) (s - 1);
}

-- ---- an entry gives no wish to another site
swept_at : (p : Plan) (s : ℕ) (rs : List Row) (k i : ℕ) → unmet_of (slice_index_or rs i blank) ≡ 0
    → unmet_of (slice_index_or (swept p s rs k) i blank) ≡ 0
swept_at p s [] k i none = none
swept_at p s (r ∷ rs) k zero none = go (is_within p s k)
  where
    go : (b : Bool) → unmet_of (if b then swept_row r else r) ≡ 0
    go true = refl
    go false = none
swept_at p s (r ∷ rs) k (suc i) none = swept_at p s rs (k + 1) i none

set_at : (rs : List Row) (j i : ℕ) (r : Row) → i ≢ j → unmet_of (slice_index_or rs i blank) ≡ 0
    → unmet_of (slice_index_or (slice_set rs j r) i blank) ≡ 0
set_at rs j i r other none = ap unmet_of (get_or-set_other rs j i r blank other) ∙ none

effect_at : (p : Plan) (t : TableState) (e : Entry) (s : ℕ) → s - 1 ≢ site_of e - 1 → unmet_of (row t s) ≡ 0
    → unmet_of (row (effect_of p t e) s) ≡ 0
effect_at p t (Register h x) s other none = set_at t.rows (x - 1) (s - 1) _ other none
effect_at p t (Request h x k) s other none = set_at t.rows (x - 1) (s - 1) _ other none
effect_at p t (Enter h x) s other none = set_at t.rows (x - 1) (s - 1) _ other none
effect_at p t (Yield h x) s other none = none
effect_at p t (Unregister h x) s other none = set_at t.rows (x - 1) (s - 1) _ other none
effect_at p t (Skip h x) s other none = swept_at p x t.rows 1 (s - 1) none

-- Where another site has no unmet wish, it has none after the entry.
wishless_stays : (p : Plan) (t : TableState) (e : Entry) (s : ℕ) → s - 1 ≢ site_of e - 1 → unmet_of (row t s) ≡ 0
    → unmet_of (row (or_same t (admit_of p t e)) s) ≡ 0
wishless_stays p t e s other none = go (first_cause (refusals_of p t e))
  where
    go : (why : Option NotAdmitted) → unmet_of (row (or_same t (unless_refused why (effect_of p t e))) s) ≡ 0
    go None = effect_at p t e s other none
    go (Some w) = none

-- An entry at a site of the plan: the range that has the site, and all of the range before.
pub wishes_grow : (p : Plan) (t : TableState) (e : Entry) (low high lower higher : ℕ) → HasWishesWithin p t low high
    → lower ≤ low → lower ≤ site_of e - 1 → high ≤ higher → site_of e - 1 < higher → higher ≤ site_count p
    → HasWishesWithin p (or_same t (admit_of p t e)) lower higher
wishes_grow p t e low high lower higher has down under up over fits = record {
  order = omega (arith, under, over);
  fits = fits;
  below = λ s from to. wishless_stays p t e s (λ same. omega (arith, from, to, under, same)) (has.below s from (omega (arith, to, down)));
  above = λ s from to. wishless_stays p t e s (λ same. omega (arith, from, over, same)) (has.above s (omega (arith, from, up)) to);
}

-- An entry at no site of the plan: the range stays.
pub wishes_stay : (p : Plan) (t : TableState) (e : Entry) (low high : ℕ) → HasWishesWithin p t low high
    → site_count p ≤ site_of e - 1 → HasWishesWithin p (or_same t (admit_of p t e)) low high
wishes_stay p t e low high has past = let o = has.order in let f = has.fits in record {
  order = has.order;
  fits = has.fits;
  below = λ s from to. wishless_stays p t e s (λ same. omega (arith, from, to, o, f, past, same)) (has.below s from to);
  above = λ s from to. wishless_stays p t e s (λ same. omega (arith, from, to, past, same)) (has.above s from to);
}

-- The least site of the range has no wish, so the range begins above it.
pub wishes_shrink : (p : Plan) (t : TableState) (low high : ℕ) → HasWishesWithin p t low high → low < high
    → unmet_of (row t (suc low)) ≡ 0 → HasWishesWithin p t (suc low) high
wishes_shrink p t low high has some none = record {
  order = some;
  fits = has.fits;
  below = λ s from to. go s (s == suc low) refl from to;
  above = has.above;
}
  where
    go : (s : ℕ) (b : Bool) → (s == suc low) ≡ b → 1 ≤ s → s ≤ suc low → unmet_of (row t s) ≡ 0
    go s true same from to = let here : s ≡ suc low = grind (arith, nat_tests) in subst (λ (j : ℕ). unmet_of (row t j) ≡ 0) (sym here) none
    go s false same from to = let other : s ≤ low = grind (arith, nat_tests) in has.below s from other

-- ---- sites without wishes add nothing
pub unmet_level : (t : TableState) (m n : ℕ) → m ≤ n → ((s : ℕ) → m < s → s ≤ n → unmet_of (row t s) ≡ 0)
    → unmet_up_to t n ≡ unmet_up_to t m
unmet_level t m zero low none = let same : m ≡ 0 = omega arith in ap (unmet_up_to t) (sym same)
unmet_level t m (suc n) low none = go (m == suc n) refl (λ less. unmet_level t m n less (λ s from to. none s from (omega (arith, to))))
  where
    go : (b : Bool) → (m == suc n) ≡ b → (m ≤ n → unmet_up_to t n ≡ unmet_up_to t m) → unmet_up_to t (suc n) ≡ unmet_up_to t m
    go true same next = let here : m ≡ suc n = grind (arith, nat_tests) in ap (unmet_up_to t) (sym here)
    go false same next =
        let less : m ≤ n = grind (arith, nat_tests) in
        let before = next less in
        let none_here = none (suc n) (omega (arith, less)) (omega arith) in
        omega (arith, before, none_here)

none_wishing : (p : Plan) (t : TableState) (s : ℕ) → unmet_of (row t s) ≡ 0 → is_wishing p t s ≡ false
none_wishing p t s none = subst (λ (u : ℕ). ((parent p s == 0) && nat_le 1 u) ≡ false) (sym none) (and_false (parent p s == 0))
  where
    and_false : (b : Bool) → (b && false) ≡ false
    and_false true = refl
    and_false false = refl

or_false : (b : Bool) → (b || false) ≡ b
or_false true = refl
or_false false = refl

pub wishing_level : (p : Plan) (t : TableState) (m n : ℕ) → m ≤ n → ((s : ℕ) → m < s → s ≤ n → unmet_of (row t s) ≡ 0)
    → wishing_up_to p t n ≡ wishing_up_to p t m
wishing_level p t m zero low none = let same : m ≡ 0 = omega arith in ap (wishing_up_to p t) (sym same)
wishing_level p t m (suc n) low none = go (m == suc n) refl (λ less. wishing_level p t m n less (λ s from to. none s from (omega (arith, to))))
  where
    go : (b : Bool) → (m == suc n) ≡ b → (m ≤ n → wishing_up_to p t n ≡ wishing_up_to p t m) → wishing_up_to p t (suc n) ≡ wishing_up_to p t m
    go true same next = let here : m ≡ suc n = grind (arith, nat_tests) in ap (wishing_up_to p t) (sym here)
    go false same next =
        let less : m ≤ n = grind (arith, nat_tests) in
        let none_here = none_wishing p t (suc n) (none (suc n) (omega (arith, less)) (omega arith)) in
        ap (λ (b : Bool). wishing_up_to p t n || b) none_here ∙ (or_false (wishing_up_to p t n) ∙ next less)
