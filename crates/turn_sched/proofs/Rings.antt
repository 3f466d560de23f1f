-- A change of the ring keeps who is ahead of a child, and that each child has one place.
use Rattle.std.proofs.Common.{◌≡◌, ◌≢◌, ℕ, ◌+◌, ◌-◌, ◌≤◌, Bool, true, false, ◌||◌, not, ◌==◌, nat_lt, if◌then◌else◌, List, [], ◌∷◌, ◌++◌, length, refl, sym, ap, subst, ◌∙◌, arith, ne_eqb}
use Rattle.std.specs.List.{filter}
use Rattle.std.proofs.lemmas.Bool.{eqb-true}
use Rattle.sched_api.specs.declared.hearing.Call.{Call}
use Rattle.sched_api.specs.declared.hearing.Call.TheVariants.{Registered, Unregistered, Requested, Yielded, Blocked}
use Rattle.turn_sched.specs.declared.ring.Place.{Place}
use Rattle.turn_sched.specs.Ring.{RingParts, has_place, wishing_more, with_more, with_place, with_wishes, left_of, TakesTurn}
use Rattle.turn_sched.specs.Turns.{ring_by}
use Rattle.turn_sched.specs.Rounds.{how_often, ahead_of}

-- A sum over children.
abbrev pub weigh : (ℕ → ℕ) → List ℕ → ℕ
weigh f [] = 0
weigh f (c ∷ cs) = f c + weigh f cs

pub weigh-append : (f : ℕ → ℕ) (xs ys : List ℕ) → weigh f (xs ++ ys) ≡ weigh f xs + weigh f ys
weigh-append f [] ys = omega arith
weigh-append f (x ∷ xs) ys = let rest = weigh-append f xs ys in omega (arith, rest)

-- 1 for the child, else 0
abbrev pub is_it : ℕ → ℕ → ℕ
is_it child c = if c == child then 1 else 0

pub often_weighs : (child : ℕ) (cs : List ℕ) → how_often child cs ≡ weigh (is_it child) cs
often_weighs child [] = refl
often_weighs child (c ∷ cs) = ap (λ n. (if c == child then 1 else 0) + n) (often_weighs child cs)

pub length_weighs : (cs : List ℕ) → length cs ≡ weigh (λ c. 1) cs
length_weighs [] = refl
length_weighs (c ∷ cs) = let rest = length_weighs cs in omega (arith, rest)

-- The children that have a place.
abbrev pub children : List Place → List ℕ
children [] = []
children (p ∷ ps) = p.child ∷ children ps

-- A request changes no place's child.
pub ahead-more : (x child count : ℕ) (ps : List Place) → ahead_of x (with_more child count ps) ≡ ahead_of x ps
ahead-more x child count [] = refl
ahead-more x child count (p ∷ ps) = at (p.child == child) (ahead-more x child count ps)
  where
    at : (b : Bool) → ahead_of x (with_more child count ps) ≡ ahead_of x ps → ahead_of x (if b then wishing_more count p ∷ ps else p ∷ with_more child count ps) ≡ ahead_of x (p ∷ ps)
    at true rest = refl
    at false rest = ap (λ cs. if p.child == x then [] else p.child ∷ cs) rest

pub has-more : (x child count : ℕ) (ps : List Place) → has_place x (with_more child count ps) ≡ has_place x ps
has-more x child count [] = refl
has-more x child count (p ∷ ps) = at (p.child == child) (has-more x child count ps)
  where
    at : (b : Bool) → has_place x (with_more child count ps) ≡ has_place x ps → has_place x (if b then wishing_more count p ∷ ps else p ∷ with_more child count ps) ≡ has_place x (p ∷ ps)
    at true rest = refl
    at false rest = ap (λ b. (p.child == x) || b) rest

pub children-more : (child count : ℕ) (ps : List Place) → children (with_more child count ps) ≡ children ps
children-more child count [] = refl
children-more child count (p ∷ ps) = at (p.child == child) (children-more child count ps)
  where
    at : (b : Bool) → children (with_more child count ps) ≡ children ps → children (if b then wishing_more count p ∷ ps else p ∷ with_more child count ps) ≡ children (p ∷ ps)
    at true rest = refl
    at false rest = ap (λ cs. p.child ∷ cs) rest

-- Places that are added at the end are behind a child that has one.
pub ahead-append : (x : ℕ) (ps qs : List Place) → has_place x ps ≡ true → ahead_of x (ps ++ qs) ≡ ahead_of x ps
ahead-append x [] qs has = let wrong = has in cc
ahead-append x (p ∷ ps) qs has = at (p.child == x) (ahead-append x ps qs) has
  where
    at : (b : Bool) → (has_place x ps ≡ true → ahead_of x (ps ++ qs) ≡ ahead_of x ps) → (b || has_place x ps) ≡ true →
        (if b then [] else p.child ∷ ahead_of x (ps ++ qs)) ≡ (if b then [] else p.child ∷ ahead_of x ps)
    at true rest h = refl
    at false rest h = ap (λ cs. p.child ∷ cs) (rest h)

pub has-append : (x : ℕ) (ps qs : List Place) → has_place x ps ≡ true → has_place x (ps ++ qs) ≡ true
has-append x [] qs has = let wrong = has in cc
has-append x (p ∷ ps) qs has = at (p.child == x) (has-append x ps qs) has
  where
    at : (b : Bool) → (has_place x ps ≡ true → has_place x (ps ++ qs) ≡ true) → (b || has_place x ps) ≡ true → (b || has_place x (ps ++ qs)) ≡ true
    at true rest h = refl
    at false rest h = rest h

pub children-append : (ps qs : List Place) → children (ps ++ qs) ≡ children ps ++ children qs
children-append [] qs = refl
children-append (p ∷ ps) qs = ap (λ cs. p.child ∷ cs) (children-append ps qs)

abbrev others : ℕ → List Place → List Place
others child ps = filter (λ p. not (p.child == child)) ps

-- If another child goes, a child keeps its place, and no more are ahead of it.
pub has-others : (x child : ℕ) (ps : List Place) → child ≢ x → has_place x (others child ps) ≡ has_place x ps
has-others x child [] other = refl
has-others x child (p ∷ ps) other = at (p.child == child) refl (has-others x child ps other)
  where
    at : (b : Bool) → (p.child == child) ≡ b → has_place x (others child ps) ≡ has_place x ps → has_place x (if not b then p ∷ others child ps else others child ps) ≡ has_place x (p ∷ ps)
    at true e rest = rest ∙ sym (ap (λ b. b || has_place x ps) (ne_eqb p.child x (λ s. other (sym (eqb-true p.child child e) ∙ s))))
    at false e rest = ap (λ b. (p.child == x) || b) rest

pub ahead-others : (f : ℕ → ℕ) (x child : ℕ) (ps : List Place) → child ≢ x → weigh f (ahead_of x (others child ps)) ≤ weigh f (ahead_of x ps)
ahead-others f x child [] other = omega arith
ahead-others f x child (p ∷ ps) other = at (p.child == child) refl (ahead-others f x child ps other)
  where
    front : (b : Bool) → weigh f (ahead_of x (others child ps)) ≤ weigh f (ahead_of x ps) → weigh f (if b then [] else p.child ∷ ahead_of x (others child ps)) ≤ weigh f (if b then [] else p.child ∷ ahead_of x ps)
    front true rest = omega arith
    front false rest = omega (arith, rest)

    at : (b : Bool) → (p.child == child) ≡ b → weigh f (ahead_of x (others child ps)) ≤ weigh f (ahead_of x ps) →
        weigh f (ahead_of x (if not b then p ∷ others child ps else others child ps)) ≤ weigh f (ahead_of x (p ∷ ps))
    at true e rest =
        let apart = ap (λ b. weigh f (if b then [] else p.child ∷ ahead_of x ps)) (ne_eqb p.child x (λ s. other (sym (eqb-true p.child child e) ∙ s))) in
        omega (arith, rest, apart)
    at false e rest = front (p.child == x) rest

pub children-others : (f : ℕ → ℕ) (child : ℕ) (ps : List Place) → weigh f (children (others child ps)) ≤ weigh f (children ps)
children-others f child [] = omega arith
children-others f child (p ∷ ps) = at (p.child == child) (children-others f child ps)
  where
    at : (b : Bool) → weigh f (children (others child ps)) ≤ weigh f (children ps) → weigh f (children (if not b then p ∷ others child ps else others child ps)) ≤ weigh f (children (p ∷ ps))
    at true rest = omega (arith, rest)
    at false rest = omega (arith, rest)

-- The rest of a place is the same child's.
pub children-left : (f : ℕ → ℕ) (p : Place) → weigh f (children (left_of p)) ≤ f p.child
children-left f p = at (nat_lt 1 p.wishes)
  where
    at : (b : Bool) → weigh f (children (if b then record p { wishes = p.wishes - 1 } ∷ [] else [])) ≤ f p.child
    at true = omega arith
    at false = omega arith

pub ahead-children : (f : ℕ → ℕ) (x : ℕ) (ps : List Place) → weigh f (ahead_of x ps) ≤ weigh f (children ps)
ahead-children f x [] = omega arith
ahead-children f x (p ∷ ps) = at (p.child == x) (ahead-children f x ps)
  where
    at : (b : Bool) → weigh f (ahead_of x ps) ≤ weigh f (children ps) → weigh f (if b then [] else p.child ∷ ahead_of x ps) ≤ f p.child + weigh f (children ps)
    at true rest = omega arith
    at false rest = omega (arith, rest)

-- A child without a place isn't among those that have one.
pub none-children : (x : ℕ) (ps : List Place) → has_place x ps ≡ false → how_often x (children ps) ≡ 0
none-children x [] none = refl
none-children x (p ∷ ps) none = at (p.child == x) (none-children x ps) none
  where
    at : (b : Bool) → (has_place x ps ≡ false → how_often x (children ps) ≡ 0) → (b || has_place x ps) ≡ false → (if b then 1 else 0) + how_often x (children ps) ≡ 0
    at true rest h = let wrong = h in cc
    at false rest h = let e = rest h in omega (arith, e)

-- A property that each case of a request has holds after the request.
pub wishes_by_cases : (P : RingParts → Type 0) (child count : ℕ) (ring : RingParts) → P ring →
    (has_place child ring.places ≡ true → P (record ring { places = with_more child count ring.places })) →
    (has_place child ring.places ≡ false → P (record ring { places = ring.places ++ record { child = child; wishes = count } ∷ [] })) →
    P (with_wishes child count ring)
wishes_by_cases P child count ring same more new = none (count == 0)
  where
    room : (b : Bool) → has_place child ring.places ≡ false → P (if b then record ring { places = ring.places ++ record { child = child; wishes = count } ∷ [] } else ring)
    room true h = new h
    room false h = same

    has : (b : Bool) → has_place child ring.places ≡ b → P (if b then record ring { places = with_more child count ring.places } else with_place child count ring)
    has true e = more e
    has false e = room (nat_lt (length ring.places) ring.room) e

    none : (b : Bool) → P (if b then ring else if has_place child ring.places then record ring { places = with_more child count ring.places } else with_place child count ring)
    none true = same
    none false = has (has_place child ring.places) refl

-- A child that has a place keeps it, and no more are ahead of it.
pub record Keeps (x : ℕ) (before after : List Place) : Type 0 where
  pub has : has_place x after ≡ true
  pub ahead : (f : ℕ → ℕ) → weigh f (ahead_of x after) ≤ weigh f (ahead_of x before)

pub keeps_same : (x : ℕ) (ps qs : List Place) → has_place x ps ≡ true → qs ≡ ps → Keeps x ps qs
keeps_same x ps qs has is = subst (λ (rs : List Place). Keeps x ps rs) (sym is) record { has = has; ahead = λ f. omega arith }

-- A child keeps its place after each callback except its own unregister.
pub hear_keeps : (x child count : ℕ) (call : Call) (ring : RingParts) → has_place x ring.places ≡ true → (call ≡ Unregistered → child ≢ x) →
    Keeps x ring.places (ring_by call child count ring).places
hear_keeps x child count Registered ring has stays = keeps_same x _ _ has refl
hear_keeps x child count Unregistered ring has stays =
    record { has = has-others x child ring.places (stays refl) ∙ has; ahead = λ f. ahead-others f x child ring.places (stays refl) }
hear_keeps x child count Requested ring has stays =
    wishes_by_cases (λ after. Keeps x ring.places after.places) child count ring (keeps_same x _ _ has refl)
    (λ _. record { has = has-more x child count ring.places ∙ has; ahead = λ f. (let e = ap (weigh f) (ahead-more x child count ring.places) in omega (arith, e)) })
    (λ _. record { has = has-append x ring.places _ has; ahead = λ f. (let e = ap (weigh f) (ahead-append x ring.places (record { child = child; wishes = count } ∷ []) has) in omega (arith, e)) })
hear_keeps x child count Yielded ring has stays = keeps_same x _ _ has refl
hear_keeps x child count Blocked ring has stays = keeps_same x _ _ has refl

-- After a turn of another child, that child is no longer ahead.
pub turn_keeps : (x y : ℕ) (ps qs : List Place) → has_place x ps ≡ true → TakesTurn ps y qs → y ≢ x →
    (has_place x qs ≡ true) × ((f : ℕ → ℕ) → f y + weigh f (ahead_of x qs) ≤ weigh f (ahead_of x ps))
turn_keeps x y [] qs has turn other = absurd turn
turn_keeps x y (p ∷ ps) qs has turn other = (
  ap (has_place x) turn.1 ∙ has-append x ps (left_of p) there,
  λ f. (let e = ap (weigh f) (ap (ahead_of x) turn.1 ∙ ahead-append x ps (left_of p) there) in let g = ap f turn.0 in
      let front = ap (λ b. weigh f (if b then [] else p.child ∷ ahead_of x ps)) apart in omega (arith, e, g, front)),
)
  where
    apart : (p.child == x) ≡ false
    apart = ne_eqb p.child x (λ s. other (turn.0 ∙ s))

    there : has_place x ps ≡ true
    there = sym (ap (λ b. b || has_place x ps) apart) ∙ has

-- Each child has at most one place.
abbrev pub HasOneEach : List Place → Type 0
HasOneEach ps = (c : ℕ) → how_often c (children ps) ≤ 1

one_from : (ps qs : List Place) → HasOneEach ps → ((f : ℕ → ℕ) → weigh f (children qs) ≤ weigh f (children ps)) → HasOneEach qs
one_from ps qs one fewer c = let a = often_weighs c (children qs) in let b = often_weighs c (children ps) in let d = fewer (is_it c) in let e = one c in omega (arith, a, b, d, e)

one_new : (child count : ℕ) (ps : List Place) → HasOneEach ps → has_place child ps ≡ false → HasOneEach (ps ++ record { child = child; wishes = count } ∷ [])
one_new child count ps one none c = at (child == c) refl
  where
    sum : how_often c (children (ps ++ record { child = child; wishes = count } ∷ [])) ≡ how_often c (children ps) + ((if child == c then 1 else 0) + 0)
    sum = ap (how_often c) (children-append ps (record { child = child; wishes = count } ∷ [])) ∙ often_weighs c _ ∙ weigh-append (is_it c) (children ps) (child ∷ [])
        ∙ ap (λ n. n + ((if child == c then 1 else 0) + 0)) (sym (often_weighs c (children ps)))

    at : (b : Bool) → (child == c) ≡ b → how_often c (children (ps ++ record { child = child; wishes = count } ∷ [])) ≤ 1
    at true e =
        let nowhere = subst (λ n. how_often n (children ps) ≡ 0) (eqb-true child c e) (none-children child ps none) in
        let s = sum ∙ ap (λ b. how_often c (children ps) + ((if b then 1 else 0) + 0)) e in omega (arith, nowhere, s)
    at false e = let here = one c in let s = sum ∙ ap (λ b. how_often c (children ps) + ((if b then 1 else 0) + 0)) e in omega (arith, here, s)

pub hear_one : (child count : ℕ) (call : Call) (ring : RingParts) → HasOneEach ring.places → HasOneEach (ring_by call child count ring).places
hear_one child count Registered ring one = one
hear_one child count Unregistered ring one = one_from ring.places _ one (λ f. children-others f child ring.places)
hear_one child count Requested ring one =
    wishes_by_cases (λ after. HasOneEach after.places) child count ring one
    (λ _. one_from ring.places _ one (λ f. (let e = ap (weigh f) (children-more child count ring.places) in omega (arith, e))))
    (one_new child count ring.places one)
hear_one child count Yielded ring one = one
hear_one child count Blocked ring one = one

pub turn_one : (y : ℕ) (ps qs : List Place) → TakesTurn ps y qs → HasOneEach ps → HasOneEach qs
turn_one y [] qs turn one = absurd turn
turn_one y (p ∷ ps) qs turn one = one_from (p ∷ ps) qs one (λ f.
    (let e = ap (weigh f) (ap children turn.1 ∙ children-append ps (left_of p)) ∙ weigh-append f (children ps) (children (left_of p)) in
    let l = children-left f p in omega (arith, e, l)))
