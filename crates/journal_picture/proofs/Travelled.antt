-- The numbers of the harts, and the laws of them.
use Rattle.std.proofs.Common.{◌≡◌, ◌≢◌, ◌∙◌, ℕ, zero, suc, ◌+◌, ◌-◌, ◌<◌, ◌≤◌, ◌==◌, ◌⊎◌, inl, inr, cond, Bool, true, false, not, List, [], ◌∷◌, ◌++◌, length, take, Option, Some, None, Result, Ok, Err, refl, sym, ap, subst, arith, slice_index_or}
use Rattle.std.specs.Prelude.{nat_lt, ◌||◌}
use Rattle.std.specs.List.{filter}
use Rattle.std.proofs.lemmas.Bool.Decides.{nat_tests}
use Rattle.transfer_table.specs.Causes.{cause_if}
use Rattle.transfer_table.specs.Counts.{one_if}
use Rattle.transfer_table.specs.Plan.{Plan, IsPlan, IsSite, parent}
use Rattle.transfer_table.specs.Entry.{hart_of, made_by}
use Rattle.transfer_table.specs.Table.{TableState, admit_of, first_state, owner}
use Rattle.transfer_table.specs.Journal.{Reaches, and_then, replay_from}
use Rattle.transfer_table.specs.Allowed.{IsAllowed}
use Rattle.transfer_table.specs.declared.entry.Entry.{Entry}
use Rattle.transfer_table.specs.declared.entry.Entry.TheVariants.{Register, Request, Enter, Yield, Unregister, Skip}
use Rattle.transfer_table.specs.declared.entry.NotAdmitted.{NotAdmitted}
use Rattle.transfer_table.proofs.Admits.{admitted}
use Rattle.transfer_table.proofs.Effects.{allowed_hart}
use Rattle.transfer_table.proofs.Lists.{replicate_at}
use Rattle.transfer_table.proofs.Positions.{Fits, fits_effect, fits_first}
use Rattle.journal_picture.specs.declared.stay.Stay.{Stay}
use Rattle.journal_picture.specs.Drawn.{or_same}
use Rattle.journal_picture.specs.Stays.{ended, first_after, goes_to, has_place, site_after, stays_from, stays_of}
use Rattle.journal_picture.specs.Travels.{EntriesAreMade, StaysAreMoves, VisitedHasPlace, is_visited, made_up_to, moves_from, seen_up_to, visited_up_to}
use Rattle.journal_picture.proofs.LawsHold.{one_stay}
use Rattle.journal_picture.proofs.Places.{owner_goes}

-- ---- the marked sites are those that were visited
pub seen_visited : (seen : List Bool) (stays : List Stay) (n : ℕ) → ((s : ℕ) → 1 ≤ s → s ≤ n → slice_index_or seen (s - 1) false ≡ is_visited stays s)
    → seen_up_to seen n ≡ visited_up_to stays n
seen_visited seen stays zero each = refl
seen_visited seen stays (suc n) each =
    let rest = seen_visited seen stays n (λ s low high. each s low (omega (arith, high))) in
    let at : suc n - 1 ≡ n = omega arith in
    let here : slice_index_or seen n false ≡ is_visited stays (suc n) =
    subst (λ (j : ℕ). slice_index_or seen j false ≡ is_visited stays (suc n)) at (each (suc n) (omega arith) (omega arith)) in
    ap (λ (m : ℕ). m + one_if (slice_index_or seen n false)) rest ∙ ap (λ (b : Bool). visited_up_to stays n + one_if b) here

-- ---- a site that was visited
self : (s : ℕ) (b : Bool) → ((s == s) || b) ≡ true
self s b = let same : (s == s) ≡ true = grind (arith, nat_tests) in subst (λ (x : Bool). (x || b) ≡ true) (sym same) refl

right_true : (a b : Bool) → b ≡ true → (a || b) ≡ true
right_true true b is = refl
right_true false b is = is

one_true : (a b : Bool) → (a || b) ≡ true → (a ≡ true) ⊎ (b ≡ true)
one_true true b is = inl refl
one_true false b is = inr is

is_same : (a b : ℕ) → (a == b) ≡ true → a ≡ b
is_same a b is = grind (arith, nat_tests)

is_else : (a b : ℕ) → a ≢ b → (a == b) ≡ false
is_else a b other = go (a == b) refl
  where
    go : (x : Bool) → (a == b) ≡ x → x ≡ false
    go true is = absurd (other (is_same a b is))
    go false is = refl

-- A stay that has a place is one of the stays.
filter_visited : (j : ℕ) (stays : List Stay) (stay : Stay) (rest : List Stay) → filter (has_place j) stays ≡ stay ∷ rest → is_visited stays stay.site ≡ true
filter_visited j [] stay rest is = absurd (cc)
filter_visited j (first ∷ more) stay rest is = go (has_place j first) is (λ later. filter_visited j more stay rest later)
  where
    go : (b : Bool) → cond b (first ∷ filter (has_place j) more) (filter (has_place j) more) ≡ stay ∷ rest
        → (filter (has_place j) more ≡ stay ∷ rest → is_visited more stay.site ≡ true) → is_visited (first ∷ more) stay.site ≡ true
    go true same next =
        let here : first ≡ stay = cc in
        subst (λ (x : Stay). ((first.site == x.site) || is_visited more x.site) ≡ true) here (self first.site (is_visited more first.site))
    go false same next = right_true (first.site == stay.site) (is_visited more stay.site) (next same)

-- A place at which the hart is at the site, counted from the first of these entries.
abbrev VisitAt : Plan → TableState → List Entry → ℕ → ℕ → Type 0
VisitAt p t es h s = (k : ℕ) × (v : TableState) × (k ≤ length es) × (replay_from p t (take k es) ≡ Ok v) × (owner v h ≡ s)

visit_at : (p : Plan) (h s first k : ℕ) (es : List Entry) (t u : TableState) → Fits p t → replay_from p t es ≡ Ok u
    → is_visited (stays_from p h (owner t h) first k es) s ≡ true → VisitAt p t es h s
visit_at p h s first k [] t u fits is seen = (0, t, omega arith, refl, only (one_true (owner t h == s) false seen))
  where
    only : ((owner t h == s) ≡ true) ⊎ (false ≡ true) → owner t h ≡ s
    only (inl here) = is_same (owner t h) s here
    only (inr none) = absurd (cc)
visit_at p h s first k (e ∷ es) t u fits is seen = go (admit_of p t e) refl is (λ v a more later. visit_at p h s (first_after first k (goes_to p h e)) (k + 1) es v u
    (subst (Fits p) (sym (admitted p t e v fits a).1) (fits_effect p t e fits)) more later)
  where
    split : (g : Option ℕ) → is_visited (ended h (owner t h) first k g ++ stays_from p h (site_after (owner t h) g) (first_after first k g) (k + 1) es) s ≡ true
        → (owner t h ≡ s) ⊎ (is_visited (stays_from p h (site_after (owner t h) g) (first_after first k g) (k + 1) es) s ≡ true)
    split None found = inr found
    split (Some o) found = by (one_true (owner t h == s) (is_visited (stays_from p h o (k + 1) (k + 1) es) s) found)
      where
        by : ((owner t h == s) ≡ true) ⊎ (is_visited (stays_from p h o (k + 1) (k + 1) es) s ≡ true)
            → (owner t h ≡ s) ⊎ (is_visited (stays_from p h o (k + 1) (k + 1) es) s ≡ true)
        by (inl here) = inl (is_same (owner t h) s here)
        by (inr later) = inr later

    shift : (v : TableState) → admit_of p t e ≡ Ok v → VisitAt p v es h s → VisitAt p t (e ∷ es) h s
    shift v admits found =
        let short = found.2 in (
          suc found.0,
          found.1,
          omega (arith, short),
          subst (λ (r : Result TableState NotAdmitted). and_then (λ w. replay_from p w (take found.0 es)) r ≡ Ok found.1) (sym admits) found.3,
          found.4,
        )

    choose : (v : TableState) → admit_of p t e ≡ Ok v
        → (owner t h ≡ s) ⊎ (is_visited (stays_from p h (site_after (owner t h) (goes_to p h e)) (first_after first k (goes_to p h e)) (k + 1) es) s ≡ true)
        → (is_visited (stays_from p h (owner v h) (first_after first k (goes_to p h e)) (k + 1) es) s ≡ true → VisitAt p v es h s) → VisitAt p t (e ∷ es) h s
    choose v admits (inl here) next = (0, t, omega arith, refl, here)
    choose v admits (inr later) next =
        shift v admits (next (subst (λ (o : ℕ). is_visited (stays_from p h o (first_after first k (goes_to p h e)) (k + 1) es) s ≡ true) (sym (owner_goes p t v e h fits admits)) later))

    go : (r : Result TableState NotAdmitted) → admit_of p t e ≡ r → and_then (λ v. replay_from p v es) r ≡ Ok u
        → ((v : TableState) → admit_of p t e ≡ Ok v → replay_from p v es ≡ Ok u → is_visited (stays_from p h (owner v h) (first_after first k (goes_to p h e)) (k + 1) es) s ≡ true → VisitAt p v es h s)
        → VisitAt p t (e ∷ es) h s
    go (Ok v) same more next = choose v same (split (goes_to p h e) seen) (next v same more)
    go (Err f) same more next = absurd (cc)

pub visited_place : VisitedHasPlace
visited_place p es u plan leads h s hart = (there, back)
  where
    start : owner (first_state p) h ≡ 0
    start = replicate_at p.harts h 0

    there : is_visited (stays_of p h es) s ≡ true → (k : ℕ) × (t : TableState) × (k ≤ length es) × Reaches p (take k es) t × (owner t h ≡ s)
    there seen = visit_at p h s 0 0 es (first_state p) u (fits_first p plan) leads (subst (λ (o : ℕ). is_visited (stays_from p h o 0 0 es) s ≡ true) (sym start) seen)

    back : ((k : ℕ) × (t : TableState) × (k ≤ length es) × Reaches p (take k es) t × (owner t h ≡ s)) → is_visited (stays_of p h es) s ≡ true
    back found =
        let one = one_stay p es found.0 found.1 plan found.2 found.3 h hart in
        subst (λ (x : ℕ). is_visited (stays_of p h es) x ≡ true) (one.3 ∙ found.4) (filter_visited found.0 (stays_of p h es) one.0 [] one.1)

-- ---- each stay but the last one ends where the hart moves
moved : (g h o s at : ℕ) (t : TableState) → cause_if (g == h) s ≡ Some o → owner t g ≡ at → s ≢ at → o ≢ owner t h
moved g h o s at t is here away = go (g == h) refl is
  where
    go : (b : Bool) → (g == h) ≡ b → cause_if b s ≡ Some o → o ≢ owner t h
    go true same goes =
        let one : s ≡ o = cc in
        λ stays. away (one ∙ (stays ∙ (ap (owner t) (sym (is_same g h same)) ∙ here)))
    go false same goes = absurd (cc)

up_else : (p : Plan) (s : ℕ) → IsPlan p → IsSite p s → s ≢ parent p s
up_else p s plan site same = let less = plan.below s site.0 site.1 in absurd (omega (arith, less, same))

goes_away : (p : Plan) (t : TableState) (e : Entry) (h o : ℕ) → IsPlan p → IsAllowed p t e → goes_to p h e ≡ Some o → o ≢ owner t h
goes_away p t (Register g s) h o plan a is = moved g h o s (parent p s) t is a.2 (up_else p s plan a.1)
goes_away p t (Request g s k) h o plan a is = absurd (cc)
goes_away p t (Enter g s) h o plan a is = moved g h o s (parent p s) t is a.2 (up_else p s plan a.1)
goes_away p t (Yield g s) h o plan a is = moved g h o (parent p s) s t is a.2 (λ same. up_else p s plan a.1 (sym same))
goes_away p t (Unregister g s) h o plan a is = moved g h o (parent p s) s t is a.2 (λ same. up_else p s plan a.1 (sym same))
goes_away p t (Skip g s) h o plan a is = absurd (cc)

stays_moves : (p : Plan) (h first k : ℕ) (es : List Entry) (t u : TableState) → IsPlan p → Fits p t → replay_from p t es ≡ Ok u
    → length (stays_from p h (owner t h) first k es) ≡ 1 + moves_from p t es h
stays_moves p h first k [] t u plan fits is = refl
stays_moves p h first k (e ∷ es) t u plan fits is = go (admit_of p t e) refl is (λ v a more. stays_moves p h (first_after first k (goes_to p h e)) (k + 1) es v u plan
    (subst (Fits p) (sym (admitted p t e v fits a).1) (fits_effect p t e fits)) more)
  where
    step : (v : TableState) (g : Option ℕ) → owner v h ≡ site_after (owner t h) g → ((o : ℕ) → g ≡ Some o → o ≢ owner t h)
        → length (stays_from p h (site_after (owner t h) g) (first_after first k g) (k + 1) es) ≡ 1 + moves_from p v es h
        → length (ended h (owner t h) first k g ++ stays_from p h (site_after (owner t h) g) (first_after first k g) (k + 1) es)
        ≡ 1 + (one_if (not (owner v h == owner t h)) + moves_from p v es h)
    step v None at away rest =
        let same : (owner v h == owner t h) ≡ true = grind (arith, nat_tests) in
        subst (λ (b : Bool). length (stays_from p h (owner t h) first (k + 1) es) ≡ 1 + (one_if (not b) + moves_from p v es h)) (sym same) (omega (arith, rest))
    step v (Some o) at away rest =
        let other : (owner v h == owner t h) ≡ false = is_else (owner v h) (owner t h) (λ same. away o refl (sym at ∙ same)) in
        subst (λ (b : Bool). suc (length (stays_from p h o (k + 1) (k + 1) es)) ≡ 1 + (one_if (not b) + moves_from p v es h)) (sym other) (omega (arith, rest))

    go : (r : Result TableState NotAdmitted) → admit_of p t e ≡ r → and_then (λ v. replay_from p v es) r ≡ Ok u
        → ((v : TableState) → admit_of p t e ≡ Ok v → replay_from p v es ≡ Ok u → length (stays_from p h (owner v h) (first_after first k (goes_to p h e)) (k + 1) es) ≡ 1 + moves_from p v es h)
        → length (stays_from p h (owner t h) first k (e ∷ es)) ≡ 1 + (one_if (not (owner (or_same t r) h == owner t h)) + moves_from p (or_same t r) es h)
    go (Ok v) same more next =
        let at = owner_goes p t v e h fits same in
        step v (goes_to p h e) at (λ o goes. goes_away p t e h o plan (admitted p t e v fits same).0 goes)
        (subst (λ (s : ℕ). length (stays_from p h s (first_after first k (goes_to p h e)) (k + 1) es) ≡ 1 + moves_from p v es h) at (next v same more))
    go (Err f) same more next = absurd (cc)

pub stays_moved : StaysAreMoves
stays_moved p es u plan leads h hart =
    let start : owner (first_state p) h ≡ 0 = replicate_at p.harts h 0 in
    subst (λ (s : ℕ). length (stays_from p h s 0 0 es) ≡ 1 + moves_from p (first_state p) es h) start
    (stays_moves p h 0 0 es (first_state p) u plan (fits_first p plan) leads)

-- ---- each entry is of one hart
none_made : (n : ℕ) → made_up_to [] n ≡ 0
none_made zero = refl
none_made (suc n) = let rest = none_made n in omega (arith, rest)

made_more : (h : ℕ) (e : Entry) (es : List Entry) → length (made_by h (e ∷ es)) ≡ one_if (hart_of e == h) + length (made_by h es)
made_more h e es = go (hart_of e == h)
  where
    go : (b : Bool) → length (cond b (e ∷ made_by h es) (made_by h es)) ≡ one_if b + length (made_by h es)
    go true = omega arith
    go false = omega arith

one_hart_more : (g n : ℕ) → one_if (nat_lt g (suc n)) ≡ one_if (nat_lt g n) + one_if (g == n)
one_hart_more g n = go (nat_lt g (suc n)) (nat_lt g n) (g == n) refl refl refl
  where
    go : (a b d : Bool) → nat_lt g (suc n) ≡ a → nat_lt g n ≡ b → (g == n) ≡ d → one_if a ≡ one_if b + one_if d
    go true true true x y z = absurd (grind (arith, nat_tests))
    go true true false x y z = refl
    go true false true x y z = refl
    go true false false x y z = absurd (grind (arith, nat_tests))
    go false true true x y z = absurd (grind (arith, nat_tests))
    go false true false x y z = absurd (grind (arith, nat_tests))
    go false false true x y z = absurd (grind (arith, nat_tests))
    go false false false x y z = refl

made_next : (e : Entry) (es : List Entry) (n : ℕ) → made_up_to (e ∷ es) n ≡ one_if (nat_lt (hart_of e) n) + made_up_to es n
made_next e es zero = let none : nat_lt (hart_of e) 0 ≡ false = grind (arith, nat_tests) in
    subst (λ (b : Bool). 0 ≡ one_if b + 0) (sym none) refl
made_next e es (suc n) =
    let rest = made_next e es n in
    let here = made_more n e es in
    let hart = one_hart_more (hart_of e) n in
    omega (arith, rest, here, hart)

all_made : (p : Plan) (es : List Entry) (t u : TableState) → Fits p t → replay_from p t es ≡ Ok u → made_up_to es p.harts ≡ length es
all_made p [] t u fits is = none_made p.harts
all_made p (e ∷ es) t u fits is = go (admit_of p t e) refl is (λ v a more. all_made p es v u (subst (Fits p) (sym (admitted p t e v fits a).1) (fits_effect p t e fits)) more)
  where
    go : (r : Result TableState NotAdmitted) → admit_of p t e ≡ r → and_then (λ v. replay_from p v es) r ≡ Ok u
        → ((v : TableState) → admit_of p t e ≡ Ok v → replay_from p v es ≡ Ok u → made_up_to es p.harts ≡ length es) → made_up_to (e ∷ es) p.harts ≡ suc (length es)
    go (Ok v) same more next =
        let rest = next v same more in
        let less : hart_of e < p.harts = allowed_hart p t e (admitted p t e v fits same).0 in
        let in_plan : nat_lt (hart_of e) p.harts ≡ true = grind (arith, nat_tests) in
        let one : one_if (nat_lt (hart_of e) p.harts) ≡ 1 = ap one_if in_plan in
        let whole = made_next e es p.harts in
        omega (arith, rest, one, whole)
    go (Err f) same more next = absurd (cc)

pub entries_made : EntriesAreMade
entries_made p es u plan leads = all_made p es (first_state p) u (fits_first p plan) leads
