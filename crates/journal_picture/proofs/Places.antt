-- The stays of a hart: which of them has a place, and how they follow one another.
use Rattle.std.proofs.Common.{◌≡◌, ◌≢◌, ◌∙◌, ℕ, zero, suc, ◌+◌, ◌≤◌, ◌<◌, ◌==◌, true, false, List, [], ◌∷◌, ◌++◌, length, take, Option, Some, None, Result, Ok, Err, refl, sym, ap, subst, arith}
use Rattle.std.specs.List.{filter}
use Rattle.std.proofs.lemmas.Bool.Decides.{nat_tests}
use Rattle.transfer_table.specs.Plan.{Plan, parent}
use Rattle.transfer_table.specs.Table.{TableState, owner, admit_of}
use Rattle.transfer_table.specs.Allowed.{IsAllowed}
use Rattle.transfer_table.specs.Causes.{cause_if}
use Rattle.transfer_table.specs.Entry.{hart_of}
use Rattle.transfer_table.specs.Journal.{replay_from, and_then}
use Rattle.transfer_table.specs.declared.entry.Entry.{Entry}
use Rattle.transfer_table.specs.declared.entry.Entry.TheVariants.{Register, Request, Enter, Yield, Unregister, Skip}
use Rattle.transfer_table.specs.declared.entry.NotAdmitted.{NotAdmitted}
use Rattle.transfer_table.proofs.Admits.{admitted}
use Rattle.transfer_table.proofs.Positions.{Fits, fits_effect}
use Rattle.transfer_table.proofs.Effects.{at_hart, owner_after}
use Rattle.journal_picture.specs.declared.stay.Stay.{Stay}
use Rattle.journal_picture.specs.Stays.{goes_to, site_after, first_after, ended, stays_from, has_place}
use Rattle.journal_picture.specs.Laws.{FollowFrom}

-- ---- the table moves a hart where its entry takes it
own : (g o s : ℕ) → o ≡ site_after s (cause_if (g == g) o)
own g o s = grind (arith, nat_tests)

other : (g h o s : ℕ) → h ≢ g → s ≡ site_after s (cause_if (g == h) o)
other g h o s n = grind (arith, nat_tests)

here : (p : Plan) (t : TableState) (e : Entry) → IsAllowed p t e → owner_after p e ≡ site_after (owner t (hart_of e)) (goes_to p (hart_of e) e)
here p t (Register g s) a = own g s (owner t g)
here p t (Request g s k) a = sym a.2
here p t (Enter g s) a = own g s (owner t g)
here p t (Yield g s) a = own g (parent p s) (owner t g)
here p t (Unregister g s) a = own g (parent p s) (owner t g)
here p t (Skip g s) a = sym a.2

else : (p : Plan) (e : Entry) (h o : ℕ) → h ≢ hart_of e → o ≡ site_after o (goes_to p h e)
else p (Register g s) h o n = other g h s o n
else p (Request g s k) h o n = refl
else p (Enter g s) h o n = other g h s o n
else p (Yield g s) h o n = other g h (parent p s) o n
else p (Unregister g s) h o n = other g h (parent p s) o n
else p (Skip g s) h o n = refl

pub owner_goes : (p : Plan) (t u : TableState) (e : Entry) (h : ℕ) → Fits p t → admit_of p t e ≡ Ok u → owner u h ≡ site_after (owner t h) (goes_to p h e)
owner_goes p t u e h fits is =
    let a = admitted p t e u fits is in
    let P : TableState → Type 0 = λ w. owner w h ≡ site_after (owner t h) (goes_to p h e) in
    subst P (sym a.1) (at_hart p t e h (λ x o. o ≡ site_after (owner t x) (goes_to p x e)) fits a.0 (here p t e a.0) (λ n. else p e h (owner t h) n))

abbrev pub stay_of : ℕ → ℕ → ℕ → Option ℕ → Stay
stay_of h s first last = record { hart = h; site = s; first = first; last = last }

-- ---- a stay has the places from its first to its last one
keeps : (j : ℕ) (stay : Stay) (rest : List Stay) → has_place j stay ≡ true → filter (has_place j) (stay ∷ rest) ≡ stay ∷ filter (has_place j) rest
keeps j stay rest is = rw is refl

drops : (j : ℕ) (stay : Stay) (rest : List Stay) → has_place j stay ≡ false → filter (has_place j) (stay ∷ rest) ≡ filter (has_place j) rest
drops j stay rest is = rw is refl

open_has : (j h s first : ℕ) → first ≤ j → has_place j (stay_of h s first None) ≡ true
open_has j h s first from = grind (arith, nat_tests)

closed_has : (j h s first k : ℕ) → first ≤ j → j ≤ k → has_place j (stay_of h s first (Some k)) ≡ true
closed_has j h s first k from to = grind (arith, nat_tests)

later_hasnt : (j h s first : ℕ) (last : Option ℕ) → j < first → has_place j (stay_of h s first last) ≡ false
later_hasnt j h s first last from = grind (arith, nat_tests)

earlier_hasnt : (j h s first k : ℕ) → k < j → has_place j (stay_of h s first (Some k)) ≡ false
earlier_hasnt j h s first k to = grind (arith, nat_tests)

-- No later stay has the place.
none_later : (p : Plan) (h s first k j : ℕ) (es : List Entry) → j < first → j ≤ k → filter (has_place j) (stays_from p h s first k es) ≡ []
none_later p h s first k j [] from to = drops j (stay_of h s first None) [] (later_hasnt j h s first None from)
none_later p h s first k j (e ∷ es) from to = step (goes_to p h e) (none_later p h s first (k + 1) j es from (omega arith)) (λ o. none_later p h o (k + 1) (k + 1) j es (omega arith) (omega arith))
  where
    step : (g : Option ℕ) → filter (has_place j) (stays_from p h s first (k + 1) es) ≡ [] → ((o : ℕ) → filter (has_place j) (stays_from p h o (k + 1) (k + 1) es) ≡ [])
        → filter (has_place j) (ended h s first k g ++ stays_from p h (site_after s g) (first_after first k g) (k + 1) es) ≡ []
    step None same next = same
    step (Some o) same next = drops j (stay_of h s first (Some k)) (stays_from p h o (k + 1) (k + 1) es) (later_hasnt j h s first (Some k) from) ∙ next o

-- One stay has the place, that of this hart at this site.
abbrev pub Only : ℕ → List Stay → ℕ → ℕ → Type 0
Only j stays h s = (stay : Stay) × (filter (has_place j) stays ≡ stay ∷ []) × (stay.hart ≡ h) × (stay.site ≡ s)

-- The first stay has its places up to where the entries begin.
first_only : (p : Plan) (h s first k j : ℕ) (es : List Entry) → first ≤ j → j ≤ k → Only j (stays_from p h s first k es) h s
first_only p h s first k j [] from to = (stay_of h s first None, keeps j (stay_of h s first None) [] (open_has j h s first from), refl, refl)
first_only p h s first k j (e ∷ es) from to = step (goes_to p h e) (first_only p h s first (k + 1) j es from (omega arith))
  where
    step : (g : Option ℕ) → Only j (stays_from p h s first (k + 1) es) h s → Only j (ended h s first k g ++ stays_from p h (site_after s g) (first_after first k g) (k + 1) es) h s
    step None same = same
    step (Some o) same = (
      stay_of h s first (Some k),
      keeps j (stay_of h s first (Some k)) (stays_from p h o (k + 1) (k + 1) es) (closed_has j h s first k from to)
          ∙ ap (λ (more : List Stay). stay_of h s first (Some k) ∷ more) (none_later p h o (k + 1) (k + 1) j es (omega arith) (omega arith)),
      refl,
      refl,
    )

-- The place behind the first n entries from place k on.
pub place_only : (p : Plan) (h first k n : ℕ) (es : List Entry) (t u : TableState) → Fits p t → first ≤ k → n ≤ length es → replay_from p t (take n es) ≡ Ok u
    → Only (k + n) (stays_from p h (owner t h) first k es) h (owner u h)
place_only p h first k zero es t u fits from short is =
    let same : t ≡ u = cc in
    subst (λ (w : TableState). Only (k + 0) (stays_from p h (owner t h) first k es) h (owner w h)) same (first_only p h (owner t h) first k (k + 0) es (omega arith) (omega arith))
place_only p h first k (suc n) [] t u fits from short is = absurd (omega arith)
place_only p h first k (suc n) (e ∷ es) t u fits from short is =
    go (admit_of p t e) refl is (λ v a more. place_only p h (first_after first k (goes_to p h e)) (k + 1) n es v u
    (subst (Fits p) (sym (admitted p t e v fits a).1) (fits_effect p t e fits)) (begins (goes_to p h e)) (omega arith) more)
  where
    begins : (g : Option ℕ) → first_after first k g ≤ k + 1
    begins None = omega arith
    begins (Some o) = omega arith

    step : (g : Option ℕ) → Only (k + suc n) (stays_from p h (site_after (owner t h) g) (first_after first k g) (k + 1) es) h (owner u h)
        → Only (k + suc n) (ended h (owner t h) first k g ++ stays_from p h (site_after (owner t h) g) (first_after first k g) (k + 1) es) h (owner u h)
    step None is = is
    step (Some o) is = (is.0, drops (k + suc n) (stay_of h (owner t h) first (Some k)) (stays_from p h o (k + 1) (k + 1) es) (earlier_hasnt (k + suc n) h (owner t h) first k (omega arith)) ∙ is.1, is.2, is.3)

    go : (r : Result TableState NotAdmitted) → admit_of p t e ≡ r → and_then (λ v. replay_from p v (take n es)) r ≡ Ok u
        → ((v : TableState) → admit_of p t e ≡ Ok v → replay_from p v (take n es) ≡ Ok u → Only (k + 1 + n) (stays_from p h (owner v h) (first_after first k (goes_to p h e)) (k + 1) es) h (owner u h))
        → Only (k + suc n) (stays_from p h (owner t h) first k (e ∷ es)) h (owner u h)
    go (Ok v) same more next =
        let place : k + 1 + n ≡ k + suc n = omega arith in
        let rest = next v same more in
        let moved = owner_goes p t v e h fits same in
        step (goes_to p h e)
        (subst (λ (j : ℕ). Only j (stays_from p h (site_after (owner t h) (goes_to p h e)) (first_after first k (goes_to p h e)) (k + 1) es) h (owner u h)) place
        (subst (λ (s : ℕ). Only (k + 1 + n) (stays_from p h s (first_after first k (goes_to p h e)) (k + 1) es) h (owner u h)) moved rest))
    go (Err f) same more next = absurd (cc)

-- ---- stays follow one another
follow_more : (k last : ℕ) (stay : Stay) (rest : List Stay) → stay.first ≡ k → stay.last ≡ Some last → k ≤ last → FollowFrom (last + 1) rest → FollowFrom k (stay ∷ rest)
follow_more k last stay [] first is from follow = absurd follow
follow_more k last stay (next ∷ more) first is from follow = (first, (last, is, from, follow))

pub follow : (p : Plan) (h s first k : ℕ) (es : List Entry) → first ≤ k → FollowFrom first (stays_from p h s first k es)
follow p h s first k [] from = (refl, refl)
follow p h s first k (e ∷ es) from = step (goes_to p h e) (follow p h s first (k + 1) es (omega arith)) (λ o. follow p h o (k + 1) (k + 1) es (omega arith))
  where
    step : (g : Option ℕ) → FollowFrom first (stays_from p h s first (k + 1) es) → ((o : ℕ) → FollowFrom (k + 1) (stays_from p h o (k + 1) (k + 1) es))
        → FollowFrom first (ended h s first k g ++ stays_from p h (site_after s g) (first_after first k g) (k + 1) es)
    step None same next = same
    step (Some o) same next = follow_more first k (stay_of h s first (Some k)) (stays_from p h o (k + 1) (k + 1) es) refl refl from (next o)
