-- How the numbers of the sites follow the entries, and the laws of them.
use Rattle.std.proofs.Common.{◌≡◌, ◌≢◌, ℕ, zero, suc, ◌+◌, ◌-◌, ◌<◌, ◌≤◌, ◌==◌, ◌⊎◌, inl, inr, cond, Bool, true, false, not, List, [], ◌∷◌, length, length-set, take, drop, get_or, get_or-set_same, get_or-set_other, Option, Result, Ok, Err, refl, sym, ap, subst, ◌∙◌, arith, slice_index, slice_index_or}
use Rattle.std.specs.Prelude.{nat_lt, max, ◌&&◌, ◌||◌, if◌then◌else◌, slice_set, replicate}
use Rattle.std.proofs.lemmas.Bool.Decides.{nat_tests}
use Rattle.std.proofs.lemmas.List.{drop_more, drop_all, length-replicate}
use Rattle.std.proofs.Math.Nat.{le-max_left, le-max_right, max-le, max-eq_left, max-eq_right, zero-max}
use Rattle.std.proofs.lemmas.Bool.{cases_lt}
use mathlib.Core.Logic.{dite}
use native.Mathlib.Decide.{ℕ_discrete}
use Rattle.transfer_table.specs.Counts.{one_if}
use Rattle.transfer_table.specs.Plan.{Plan, IsSite, site_count}
use Rattle.transfer_table.specs.Entry.{hart_of, site_of}
use Rattle.transfer_table.specs.Table.{TableState, admit_of, blank, effect_of, first_state, is_home, is_live, owner, row}
use Rattle.transfer_table.specs.Journal.{and_then, replay_from}
use Rattle.transfer_table.specs.Allowed.{IsAllowed}
use Rattle.transfer_table.specs.declared.entry.Row.{Row}
use Rattle.transfer_table.specs.declared.entry.Entry.{Entry}
use Rattle.transfer_table.specs.declared.entry.Entry.TheVariants.{Register, Request, Enter, Yield, Unregister, Skip}
use Rattle.transfer_table.specs.declared.entry.NotAdmitted.{NotAdmitted}
use Rattle.transfer_table.proofs.Admits.{admitted}
use Rattle.transfer_table.proofs.Positions.{Fits, fits_effect}
use Rattle.transfer_table.proofs.Effects.{allowed_hart, at_site, owner-effect_other, owner-effect_same, owner_after, row_after}
use Rattle.transfer_table.proofs.LawsHold.{wishes_balance}
use Rattle.journal_picture.specs.Drawn.{or_same}
use Rattle.journal_picture.specs.Visits.{GuestsAreAtMost, GuestsAreReached, MetWishesEntered, followed, guests_below, guests_by, guests_in, is_outside, made_from, most_from, site_at, visits_at, visits_from, visits_in, with_entry, with_guests}
use Rattle.journal_picture.specs.declared.visits.Visits.{Visits}

-- ---- the guests of a site to which no hart comes
one_less : (a b : Bool) → (a ≡ true → b ≡ true) → one_if a ≤ one_if b
one_less true true same = omega arith
one_less true false same = let e = same refl in absurd (cc)
one_less false b same = omega arith

guests_less : (before after : List ℕ) (h s : ℕ) (home : Option ℕ) (n : ℕ) → ((g : ℕ) → g ≢ h → slice_index after g ≡ slice_index before g)
    → slice_index after h ≢ s → guests_below after s home n ≤ guests_below before s home n
guests_less before after h s home zero same away = omega arith
guests_less before after h s home (suc g) same away =
    let rest = guests_less before after h s home g same away in
    let here : one_if ((slice_index after g == s) && not (is_home home g)) ≤ one_if ((slice_index before g == s) && not (is_home home g)) =
    dite (ℕ_discrete g h)
    (λ is. let none : (slice_index after g == s) ≡ false = by_away g is in subst (λ (b : Bool). one_if (b && not (is_home home g)) ≤ one_if ((slice_index before g == s) && not (is_home home g))) (sym none) (omega arith))
    (λ other. subst (λ (o : ℕ). one_if ((o == s) && not (is_home home g)) ≤ one_if ((slice_index before g == s) && not (is_home home g))) (sym (same g other)) (omega arith)) in
    omega (arith, rest, here)
  where
    differs : (a : ℕ) → a ≢ s → (a == s) ≡ false
    differs a n = go (a == s) refl
      where
        go : (b : Bool) → (a == s) ≡ b → b ≡ false
        go true is = absurd (n (grind (arith, nat_tests)))
        go false is = refl

    by_away : (g : ℕ) → g ≡ h → (slice_index after g == s) ≡ false
    by_away g is = differs (slice_index after g) (subst (λ (j : ℕ). slice_index after j ≢ s) (sym is) away)

-- In a row that is live no more than in another one, a site to which no hart comes has no more guests.
guests_kept : (p : Plan) (t : TableState) (e : Entry) (s : ℕ) (found : Row) → Fits p t → IsAllowed p t e → s ≢ owner_after p e
    → guests_by p (effect_of p t e).owners s found ≤ guests_by p t.owners s found
guests_kept p t e s found fits is away = go (is_live found.stage)
  where
    go : (b : Bool) → cond b (guests_below (effect_of p t e).owners s found.home p.harts) 0 ≤ cond b (guests_below t.owners s found.home p.harts) 0
    go false = omega arith
    go true = guests_less t.owners (effect_of p t e).owners (hart_of e) s found.home p.harts
        (λ g other. owner-effect_other p t e g other)
        (λ same. away (sym (sym (owner-effect_same p t e fits is) ∙ same)))

guests_else : (p : Plan) (t : TableState) (e : Entry) (y : ℕ) → Fits p t → IsAllowed p t e → IsSite p y → y ≢ owner_after p e
    → guests_in p (effect_of p t e) y ≤ guests_in p t y
guests_else p t e y fits is site away =
    at_site p t e y (λ x found. x ≢ owner_after p e → guests_by p (effect_of p t e).owners x found ≤ guests_by p t.owners x (row t x)) fits is site (here e is)
    (λ other out away'. guests_kept p t e y (row t y) fits is away') (λ other inner away'. omega arith) away
  where
    here : (e : Entry) → IsAllowed p t e → site_of e ≢ owner_after p e
        → guests_by p (effect_of p t e).owners (site_of e) (row_after t e) ≤ guests_by p t.owners (site_of e) (row t (site_of e))
    here (Register h s) a n = absurd (n refl)
    here (Request h s k) a n = absurd (n refl)
    here (Enter h s) a n = absurd (n refl)
    here (Yield h s) a n = guests_kept p t (Yield h s) s (row t s) fits a n
    here (Unregister h s) a n = omega arith
    here (Skip h s) a n = omega arith

in_harts : (h n : ℕ) → h < n → nat_lt h n ≡ true
in_harts h n lt = grind (arith, nat_tests)

-- After an entry only the site in which its hart is can have more guests.
guests_next : (p : Plan) (t : TableState) (e : Entry) (y : ℕ) → Fits p t → IsSite p y → y ≢ site_at p (or_same t (admit_of p t e)) e
    → guests_in p (or_same t (admit_of p t e)) y ≤ guests_in p t y
guests_next p t e y fits site away = go (admit_of p t e) refl away
  where
    by : (u : TableState) → admit_of p t e ≡ Ok u → y ≢ site_at p u e → guests_in p u y ≤ guests_in p t y
    by u same away' =
        let known = admitted p t e u fits same in
        let hart : nat_lt (hart_of e) p.harts ≡ true = in_harts (hart_of e) p.harts (allowed_hart p t e known.0) in
        let now : site_at p (effect_of p t e) e ≡ owner_after p e = subst (λ (b : Bool). (if b then owner (effect_of p t e) (hart_of e) else 0) ≡ owner_after p e) (sym hart) (owner-effect_same p t e fits known.0) in
        let other : y ≢ owner_after p e = subst (λ (x : ℕ). y ≢ x) now (subst (λ (v : TableState). y ≢ site_at p v e) known.1 away') in
        subst (λ (v : TableState). guests_in p v y ≤ guests_in p t y) (sym known.1) (guests_else p t e y fits known.0 site other)

    go : (r : Result TableState NotAdmitted) → admit_of p t e ≡ r → y ≢ site_at p (or_same t r) e → guests_in p (or_same t r) y ≤ guests_in p t y
    go (Ok u) same away' = by u same away'
    go (Err w) same away' = omega arith

fits_next : (p : Plan) (t : TableState) (e : Entry) → Fits p t → Fits p (or_same t (admit_of p t e))
fits_next p t e fits = go (admit_of p t e) refl
  where
    go : (r : Result TableState NotAdmitted) → admit_of p t e ≡ r → Fits p (or_same t r)
    go (Ok u) same = subst (Fits p) (sym (admitted p t e u fits same).1) (fits_effect p t e fits)
    go (Err w) same = fits

-- ---- one number more
outside_else : (n a s : ℕ) → ((a == 0) || nat_lt n a) ≡ true → 1 ≤ s → s ≤ n → (a == s) ≡ false
outside_else n a s is low high = grind (arith, nat_tests)

inside_is : (n a : ℕ) → ((a == 0) || nat_lt n a) ≡ false → (1 ≤ a) × (a ≤ n)
inside_is n a is = (grind (arith, nat_tests), grind (arith, nat_tests))

set_here : (vs : List Visits) (a s : ℕ) (v : Visits) → 1 ≤ a → a ≤ length vs → a ≡ s → visits_at (slice_set vs (a - 1) v) s ≡ v
set_here vs a s v low high is = subst (λ (j : ℕ). visits_at (slice_set vs (a - 1) v) j ≡ v) is (get_or-set_same vs (a - 1) v record { guests = 0; entries = 0 } (omega (arith, low, high)))

set_else : (vs : List Visits) (a s : ℕ) (v : Visits) → 1 ≤ a → 1 ≤ s → a ≢ s → visits_at (slice_set vs (a - 1) v) s ≡ visits_at vs s
set_else vs a s v low here other = get_or-set_other vs (a - 1) (s - 1) v record { guests = 0; entries = 0 } (λ is. other (omega (arith, low, here, is)))

entry_entries : (vs : List Visits) (a s : ℕ) → 1 ≤ s → s ≤ length vs → (visits_at (with_entry vs a) s).entries ≡ (visits_at vs s).entries + one_if (a == s)
entry_entries vs a s low high = go (is_outside vs a) refl
  where
    same : (b : Bool) → (a == s) ≡ b → (1 ≤ a) × (a ≤ length vs)
        → (visits_at (slice_set vs (a - 1) record (visits_at vs a) { entries = (visits_at vs a).entries + 1 }) s).entries ≡ (visits_at vs s).entries + one_if b
    same true is at =
        let here : a ≡ s = grind (arith, nat_tests) in
        ap (λ (v : Visits). v.entries) (set_here vs a s _ at.0 at.1 here) ∙ ap (λ (j : ℕ). (visits_at vs j).entries + 1) here
    same false is at =
        let zero_more : (visits_at vs s).entries ≡ (visits_at vs s).entries + 0 = omega arith in
        let other : a ≢ s = λ e. let t : (a == s) ≡ true = grind (arith, nat_tests) in cc in
        ap (λ (v : Visits). v.entries) (set_else vs a s _ at.0 low other) ∙ zero_more

    go : (b : Bool) → is_outside vs a ≡ b
        → (visits_at (if b then vs else slice_set vs (a - 1) record (visits_at vs a) { entries = (visits_at vs a).entries + 1 }) s).entries ≡ (visits_at vs s).entries + one_if (a == s)
    go true is =
        let none_more : (a == s) ≡ false = outside_else (length vs) a s is low high in
        let zero_more : (visits_at vs s).entries ≡ (visits_at vs s).entries + 0 = omega arith in
        subst (λ (b : Bool). (visits_at vs s).entries ≡ (visits_at vs s).entries + one_if b) (sym none_more) zero_more
    go false is = same (a == s) refl (inside_is (length vs) a is)

entry_guests : (vs : List Visits) (a s : ℕ) → 1 ≤ s → (visits_at (with_entry vs a) s).guests ≡ (visits_at vs s).guests
entry_guests vs a s low = go (is_outside vs a) refl
  where
    go : (b : Bool) → is_outside vs a ≡ b
        → (visits_at (if b then vs else slice_set vs (a - 1) record (visits_at vs a) { entries = (visits_at vs a).entries + 1 }) s).guests ≡ (visits_at vs s).guests
    go true is = refl
    go false is = let at = inside_is (length vs) a is in dite (ℕ_discrete a s)
        (λ here. ap (λ (v : Visits). v.guests) (set_here vs a s _ at.0 at.1 here) ∙ ap (λ (j : ℕ). (visits_at vs j).guests) here)
        (λ other. ap (λ (v : Visits). v.guests) (set_else vs a s _ at.0 low other))

guests_entries : (vs : List Visits) (a s n : ℕ) → 1 ≤ s → (visits_at (with_guests vs a n) s).entries ≡ (visits_at vs s).entries
guests_entries vs a s n low = go (is_outside vs a) refl
  where
    go : (b : Bool) → is_outside vs a ≡ b
        → (visits_at (if b then vs else slice_set vs (a - 1) record (visits_at vs a) { guests = max (visits_at vs a).guests n }) s).entries ≡ (visits_at vs s).entries
    go true is = refl
    go false is = let at = inside_is (length vs) a is in dite (ℕ_discrete a s)
        (λ here. ap (λ (v : Visits). v.entries) (set_here vs a s _ at.0 at.1 here) ∙ ap (λ (j : ℕ). (visits_at vs j).entries) here)
        (λ other. ap (λ (v : Visits). v.entries) (set_else vs a s _ at.0 low other))

guests_here : (vs : List Visits) (a s n : ℕ) → 1 ≤ s → s ≤ length vs → a ≡ s → (visits_at (with_guests vs a n) s).guests ≡ max (visits_at vs s).guests n
guests_here vs a s n low high here = go (is_outside vs a) refl
  where
    go : (b : Bool) → is_outside vs a ≡ b
        → (visits_at (if b then vs else slice_set vs (a - 1) record (visits_at vs a) { guests = max (visits_at vs a).guests n }) s).guests ≡ max (visits_at vs s).guests n
    go true is = let e : (a == s) ≡ false = outside_else (length vs) a s is low high in let t : (a == s) ≡ true = grind (arith, nat_tests) in absurd (cc)
    go false is = let at = inside_is (length vs) a is in
        ap (λ (v : Visits). v.guests) (set_here vs a s _ at.0 at.1 here) ∙ ap (λ (j : ℕ). max (visits_at vs j).guests n) here

guests_elsewhere : (vs : List Visits) (a s n : ℕ) → 1 ≤ s → a ≢ s → (visits_at (with_guests vs a n) s).guests ≡ (visits_at vs s).guests
guests_elsewhere vs a s n low other = go (is_outside vs a) refl
  where
    go : (b : Bool) → is_outside vs a ≡ b
        → (visits_at (if b then vs else slice_set vs (a - 1) record (visits_at vs a) { guests = max (visits_at vs a).guests n }) s).guests ≡ (visits_at vs s).guests
    go true is = refl
    go false is = let at = inside_is (length vs) a is in ap (λ (v : Visits). v.guests) (set_else vs a s _ at.0 low other)

pub length-entry : (vs : List Visits) (a : ℕ) → length (with_entry vs a) ≡ length vs
length-entry vs a = go (is_outside vs a)
  where
    go : (b : Bool) → length (if b then vs else slice_set vs (a - 1) record (visits_at vs a) { entries = (visits_at vs a).entries + 1 }) ≡ length vs
    go true = refl
    go false = length-set vs (a - 1) _

length-guests : (vs : List Visits) (a n : ℕ) → length (with_guests vs a n) ≡ length vs
length-guests vs a n = go (is_outside vs a)
  where
    go : (b : Bool) → length (if b then vs else slice_set vs (a - 1) record (visits_at vs a) { guests = max (visits_at vs a).guests n }) ≡ length vs
    go true = refl
    go false = length-set vs (a - 1) _

-- ---- the numbers so far
pub record SoFar (p : Plan) (es : List Entry) (k : ℕ) (t : TableState) (vs : List Visits) : Type 0 where
  pub fits : Fits p t
  pub size : length vs ≡ site_count p
  pub few : (s : ℕ) → IsSite p s → (visits_at vs s).entries ≤ k
  pub low : (s : ℕ) → IsSite p s → guests_in p t s ≤ (visits_at vs s).guests
  pub most : (s : ℕ) → IsSite p s → max (visits_at vs s).guests (most_from p t (drop k es) s) ≡ most_from p (first_state p) es s
  pub made : (s : ℕ) → IsSite p s → (visits_at vs s).entries + made_from p t (drop k es) s ≡ made_from p (first_state p) es s

max_in : (a g r : ℕ) → g ≤ a → max a (max g r) ≡ max a r
max_in a g r small = le_both (max a (max g r)) (max a r)
    (max-le (le-max_left a r) (max-le (le_then g a (max a r) small (le-max_left a r)) (le-max_right a r)))
    (max-le (le-max_left a (max g r)) (le_then r (max g r) (max a (max g r)) (le-max_right g r) (le-max_right a (max g r))))
  where
    le_then : (x y z : ℕ) → x ≤ y → y ≤ z → x ≤ z
    le_then x y z first second = omega (arith, first, second)

    le_both : (x y : ℕ) → x ≤ y → y ≤ x → x ≡ y
    le_both x y first second = omega (arith, first, second)

max_more : (a n r : ℕ) → n ≤ r → max (max a n) r ≡ max a r
max_more a n r small = le_both (max (max a n) r) (max a r)
    (max-le (max-le (le-max_left a r) (le_then n r (max a r) small (le-max_right a r))) (le-max_right a r))
    (max-le (le_then a (max a n) (max (max a n) r) (le-max_left a n) (le-max_left (max a n) r)) (le-max_right (max a n) r))
  where
    le_then : (x y z : ℕ) → x ≤ y → y ≤ z → x ≤ z
    le_then x y z first second = omega (arith, first, second)

    le_both : (x y : ℕ) → x ≤ y → y ≤ x → x ≡ y
    le_both x y first second = omega (arith, first, second)

most_least : (p : Plan) (t : TableState) (es : List Entry) (s : ℕ) → guests_in p t s ≤ most_from p t es s
most_least p t [] s = omega arith
most_least p t (e ∷ es) s = le-max_left (guests_in p t s) (most_from p (or_same t (admit_of p t e)) es s)

abbrev nothing : Visits
nothing = record { guests = 0; entries = 0 }

blank_visits : (n i : ℕ) → slice_index_or (replicate n nothing) i nothing ≡ nothing
blank_visits zero i = refl
blank_visits (suc n) zero = refl
blank_visits (suc n) (suc i) = blank_visits n i

first_guests : (p : Plan) (s : ℕ) → guests_in p (first_state p) s ≡ 0
first_guests p s = blank_row (site_count p) (s - 1)
  where
    blank_row : (n i : ℕ) → guests_by p (first_state p).owners s (slice_index_or (replicate n blank) i blank) ≡ 0
    blank_row zero i = refl
    blank_row (suc n) zero = refl
    blank_row (suc n) (suc i) = blank_row n i

pub so_far_first : (p : Plan) (es : List Entry) → Fits p (first_state p) → SoFar p es 0 (first_state p) (replicate (site_count p) record { guests = 0; entries = 0 })
so_far_first p es fits = record {
  fits = fits;
  size = length-replicate (site_count p) record { guests = 0; entries = 0 };
  few = λ s site. subst (λ (v : Visits). v.entries ≤ 0) (sym (blank_visits (site_count p) (s - 1))) (omega arith);
  low = λ s site. subst (λ (n : ℕ). n ≤ (visits_at (replicate (site_count p) record { guests = 0; entries = 0 }) s).guests) (sym (first_guests p s)) (omega arith);
  most = λ s site. ap (λ (v : Visits). max v.guests (most_from p (first_state p) es s)) (blank_visits (site_count p) (s - 1)) ∙ zero-max (most_from p (first_state p) es s);
  made = λ s site. let add : 0 + made_from p (first_state p) es s ≡ made_from p (first_state p) es s = omega arith in
      ap (λ (v : Visits). v.entries + made_from p (first_state p) es s) (blank_visits (site_count p) (s - 1)) ∙ add;
}

pub so_far_next : (p : Plan) (es : List Entry) (k : ℕ) (t : TableState) (vs : List Visits) (d : Entry) → k < length es → SoFar p es k t vs
    → SoFar p es (k + 1) (or_same t (admit_of p t (get_or es k d))) (followed p t vs (get_or es k d))
so_far_next p es k t vs d within so_far = record {
  fits = fits_next p t e so_far.fits;
  size = length-guests (with_entry vs a) b n ∙ (length-entry vs a ∙ so_far.size);
  few = λ s site. let had = so_far.few s site in let now = entries_now s site in let one = one_at_most (a == s) in omega (arith, had, now, one);
  low = λ s site. low_now s site (b == s) refl;
  most = λ s site. most_now s site (b == s) refl;
  made = λ s site.
      let now = entries_now s site in
      let rest : made_from p t (drop k es) s ≡ one_if (a == s) + made_from p u (drop (k + 1) es) s = ap (λ xs. made_from p t xs s) (drop_more es k d within) in
      let had = so_far.made s site in
      omega (arith, now, rest, had);
}
  where
    e : Entry
    e = get_or es k d

    u : TableState
    u = or_same t (admit_of p t e)

    a : ℕ
    a = site_at p t e

    b : ℕ
    b = site_at p u e

    n : ℕ
    n = guests_in p u b

    new : List Visits
    new = with_guests (with_entry vs a) b n

    one_at_most : (x : Bool) → one_if x ≤ 1
    one_at_most true = omega arith
    one_at_most false = omega arith

    fit_entry : (s : ℕ) → IsSite p s → s ≤ length vs
    fit_entry s site = let size = so_far.size in omega (arith, site.1, size)

    entries_now : (s : ℕ) → IsSite p s → (visits_at new s).entries ≡ (visits_at vs s).entries + one_if (a == s)
    entries_now s site = guests_entries (with_entry vs a) b s n site.0 ∙ entry_entries vs a s site.0 (fit_entry s site)

    guests_same : (s : ℕ) → IsSite p s → b ≢ s → (visits_at new s).guests ≡ (visits_at vs s).guests
    guests_same s site other = guests_elsewhere (with_entry vs a) b s n site.0 other ∙ entry_guests vs a s site.0

    guests_now : (s : ℕ) → IsSite p s → b ≡ s → (visits_at new s).guests ≡ max (visits_at vs s).guests n
    guests_now s site here =
        let long : s ≤ length (with_entry vs a) = let fit = fit_entry s site in let same = length-entry vs a in omega (arith, fit, same) in
        guests_here (with_entry vs a) b s n site.0 long here ∙ ap (λ (g : ℕ). max g n) (entry_guests vs a s site.0)

    is_here : (s : ℕ) → (b == s) ≡ true → b ≡ s
    is_here s is = grind (arith, nat_tests)

    is_other : (s : ℕ) → (b == s) ≡ false → b ≢ s
    is_other s is same = let t' : (b == s) ≡ true = grind (arith, nat_tests) in absurd (cc)

    low_now : (s : ℕ) → IsSite p s → (x : Bool) → (b == s) ≡ x → guests_in p u s ≤ (visits_at new s).guests
    low_now s site true is =
        let here = is_here s is in
        subst (λ (m : ℕ). guests_in p u s ≤ m) (sym (guests_now s site here))
        (subst (λ (j : ℕ). guests_in p u j ≤ max (visits_at vs s).guests n) here (le-max_right (visits_at vs s).guests n))
    low_now s site false is =
        let other = is_other s is in
        let less = guests_next p t e s so_far.fits site (λ same. other (sym same)) in
        let had = so_far.low s site in
        let same = guests_same s site other in
        omega (arith, less, had, same)

    rest_most : (s : ℕ) → IsSite p s → max (visits_at vs s).guests (most_from p u (drop (k + 1) es) s) ≡ most_from p (first_state p) es s
    rest_most s site =
        let rest : most_from p t (drop k es) s ≡ max (guests_in p t s) (most_from p u (drop (k + 1) es) s) = ap (λ xs. most_from p t xs s) (drop_more es k d within) in
        sym (max_in (visits_at vs s).guests (guests_in p t s) (most_from p u (drop (k + 1) es) s) (so_far.low s site))
        ∙ (ap (λ (m : ℕ). max (visits_at vs s).guests m) (sym rest) ∙ so_far.most s site)

    most_now : (s : ℕ) → IsSite p s → (x : Bool) → (b == s) ≡ x → max (visits_at new s).guests (most_from p u (drop (k + 1) es) s) ≡ most_from p (first_state p) es s
    most_now s site true is =
        let here = is_here s is in
        let small : n ≤ most_from p u (drop (k + 1) es) s = subst (λ (j : ℕ). guests_in p u b ≤ most_from p u (drop (k + 1) es) j) here (most_least p u (drop (k + 1) es) b) in
        ap (λ (g : ℕ). max g (most_from p u (drop (k + 1) es) s)) (guests_now s site here)
        ∙ (max_more (visits_at vs s).guests n (most_from p u (drop (k + 1) es) s) small ∙ rest_most s site)
    most_now s site false is = ap (λ (g : ℕ). max g (most_from p u (drop (k + 1) es) s)) (guests_same s site (is_other s is)) ∙ rest_most s site

-- ---- at the end
listed : (p : Plan) (es : List Entry) (vs : List Visits) (s n : ℕ) → length vs ≡ n
    → ((i : ℕ) → i < n → slice_index_or vs i record { guests = 0; entries = 0 } ≡ visits_in p es (s + i)) → vs ≡ visits_from p es s n
listed p es [] s zero size each = refl
listed p es [] s (suc n) size each = absurd (omega (arith, size))
listed p es (v ∷ vs) s zero size each = absurd (omega (arith, size))
listed p es (v ∷ vs) s (suc n) size each =
    let at : s + 0 ≡ s = omega arith in
    let head : v ≡ visits_in p es s = each 0 (omega arith) ∙ ap (visits_in p es) at in
    let more : vs ≡ visits_from p es (s + 1) n = listed p es vs (s + 1) n (omega (arith, size)) (λ i lt.
    let next : s + suc i ≡ s + 1 + i = omega arith in each (suc i) (omega (arith, lt)) ∙ ap (visits_in p es) next) in
    ap (λ (q : Visits × List Visits). q.0 ∷ q.1) (λ i. (head i, more i))

both_same : (v w : Visits) → v.guests ≡ w.guests → v.entries ≡ w.entries → v ≡ w
both_same v w first second = ap (λ (q : ℕ × ℕ). record { guests = q.0; entries = q.1 }) (λ i. (first i, second i))

pub so_far_last : (p : Plan) (es : List Entry) (k : ℕ) (t : TableState) (vs : List Visits) → length es ≤ k → SoFar p es k t vs → vs ≡ visits_from p es 1 (site_count p)
so_far_last p es k t vs past so_far = listed p es vs 1 (site_count p) so_far.size (λ i lt.
    let at : 1 + i - 1 ≡ i = omega arith in
    subst (λ (j : ℕ). slice_index_or vs j record { guests = 0; entries = 0 } ≡ visits_in p es (1 + i)) at (each (1 + i) (omega arith, omega (arith, lt))))
  where
    each : (s : ℕ) → IsSite p s → visits_at vs s ≡ visits_in p es s
    each s site =
        let none_more : drop k es ≡ [] = drop_all k es past in
        let made : made_from p t (drop k es) s ≡ 0 = ap (λ xs. made_from p t xs s) none_more in
        let most : most_from p t (drop k es) s ≡ guests_in p t s = ap (λ xs. most_from p t xs s) none_more in
        let had = so_far.made s site in
        both_same (visits_at vs s) (visits_in p es s)
        (sym (max-eq_left {n = (visits_at vs s).guests} {m = guests_in p t s} (so_far.low s site)) ∙ (ap (λ (m : ℕ). max (visits_at vs s).guests m) (sym most) ∙ so_far.most s site))
        (omega (arith, made, had))

-- ---- laws
at_most : (p : Plan) (es : List Entry) (k : ℕ) (t u : TableState) (s : ℕ) → k ≤ length es → replay_from p t (take k es) ≡ Ok u → guests_in p u s ≤ most_from p t es s
at_most p es zero t u s short is = let same : t ≡ u = cc in subst (λ (w : TableState). guests_in p w s ≤ most_from p t es s) same (most_least p t es s)
at_most p [] (suc k) t u s short is = absurd (omega arith)
at_most p (e ∷ es) (suc k) t u s short is = go (admit_of p t e) refl is (λ v more. at_most p es k v u s (omega (arith, short)) more)
  where
    go : (r : Result TableState NotAdmitted) → admit_of p t e ≡ r → and_then (λ v. replay_from p v (take k es)) r ≡ Ok u
        → ((v : TableState) → replay_from p v (take k es) ≡ Ok u → guests_in p u s ≤ most_from p v es s) → guests_in p u s ≤ max (guests_in p t s) (most_from p (or_same t (admit_of p t e)) es s)
    go (Ok v) same more next =
        let less = next v more in
        let here : guests_in p u s ≤ max (guests_in p t s) (most_from p v es s) = let right = le-max_right (guests_in p t s) (most_from p v es s) in omega (arith, less, right) in
        subst (λ (r : Result TableState NotAdmitted). guests_in p u s ≤ max (guests_in p t s) (most_from p (or_same t r) es s)) (sym same) here
    go (Err f) same more next = absurd (cc)

pub guests_at_most : GuestsAreAtMost
guests_at_most p es k t short leads s = at_most p es k (first_state p) t s short leads

-- A place after so many entries at which the site has these guests.
record ReachedAt (p : Plan) (t : TableState) (es : List Entry) (s most : ℕ) : Type 0 where
  place : ℕ
  state : TableState
  short : place ≤ length es
  leads : replay_from p t (take place es) ≡ Ok state
  guests : guests_in p state s ≡ most

max_is : (a b : ℕ) → (max a b ≡ a) ⊎ (max a b ≡ b)
max_is a b = go (cases_lt a b)
  where
    go : (a < b) ⊎ (b ≤ a) → (max a b ≡ a) ⊎ (max a b ≡ b)
    go (inl less) = inr (max-eq_right {n = a} {m = b} (omega (arith, less)))
    go (inr least) = inl (max-eq_left {n = a} {m = b} least)

reached_at : (p : Plan) (es : List Entry) (t u : TableState) (s : ℕ) → replay_from p t es ≡ Ok u → ReachedAt p t es s (most_from p t es s)
reached_at p [] t u s is = record { place = 0; state = t; short = omega arith; leads = refl; guests = refl }
reached_at p (e ∷ es) t u s is = go (admit_of p t e) refl is (λ v more. reached_at p es v u s more)
  where
    first : (v : TableState) → max (guests_in p t s) (most_from p v es s) ≡ guests_in p t s → ReachedAt p t (e ∷ es) s (max (guests_in p t s) (most_from p v es s))
    first v same = record { place = 0; state = t; short = omega arith; leads = refl; guests = sym same }

    later : (v : TableState) → admit_of p t e ≡ Ok v → max (guests_in p t s) (most_from p v es s) ≡ most_from p v es s → ReachedAt p v es s (most_from p v es s)
        → ReachedAt p t (e ∷ es) s (max (guests_in p t s) (most_from p v es s))
    later v admits same more = record {
      place = suc more.place;
      state = more.state;
      short = let fits = more.short in omega (arith, fits);
      leads = subst (λ (r : Result TableState NotAdmitted). and_then (λ w. replay_from p w (take more.place es)) r ≡ Ok more.state) (sym admits) more.leads;
      guests = more.guests ∙ sym same;
    }

    by : (v : TableState) → admit_of p t e ≡ Ok v → ReachedAt p v es s (most_from p v es s) → (max (guests_in p t s) (most_from p v es s) ≡ guests_in p t s) ⊎ (max (guests_in p t s) (most_from p v es s) ≡ most_from p v es s)
        → ReachedAt p t (e ∷ es) s (max (guests_in p t s) (most_from p v es s))
    by v admits more (inl same) = first v same
    by v admits more (inr same) = later v admits same more

    go : (r : Result TableState NotAdmitted) → admit_of p t e ≡ r → and_then (λ v. replay_from p v es) r ≡ Ok u
        → ((v : TableState) → replay_from p v es ≡ Ok u → ReachedAt p v es s (most_from p v es s)) → ReachedAt p t (e ∷ es) s (max (guests_in p t s) (most_from p (or_same t (admit_of p t e)) es s))
    go (Ok v) same more next = subst (λ (r : Result TableState NotAdmitted). ReachedAt p t (e ∷ es) s (max (guests_in p t s) (most_from p (or_same t r) es s))) (sym same)
        (by v same (next v more) (max_is (guests_in p t s) (most_from p v es s)))
    go (Err f) same more next = absurd (cc)

pub guests_reached : GuestsAreReached
guests_reached p es u leads s = let one = reached_at p es (first_state p) u s leads in (one.place, one.state, one.short, one.leads, one.guests)

pub met_entered : MetWishesEntered
met_entered p es t plan leads s site =
    let balance = (wishes_balance p es t plan leads).1 s site in
    (balance.1, omega (arith, balance.0))
