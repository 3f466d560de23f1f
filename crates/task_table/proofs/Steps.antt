-- Each step keeps the invariant of a table of tasks.
use Rattle.std.proofs.Common.{◌≡◌, ◌≢◌, ℕ, zero, suc, ◌<◌, ◌≤◌, ◌==◌, ◌++◌, ◌⊎◌, List, [], ◌∷◌, All, map, replicate, get_or, set, sym, refl, ap, ◌∙◌, subst, arith, length, length-set, get_or-set_same, inl, inr, ⊎_elim}
use Rattle.std.proofs.lemmas.List.{get_or-set_other, length-map, length-replicate}
use Rattle.std.proofs.lemmas.List.Elements.{All-head, All-tail}
use mathlib.Core.Logic.{dite}
use mathlib.Core.Option.{Option, some, none, some-injective, some-ne-none}
use native.Mathlib.Decide.{ℕ_discrete}
use lib.ListN.{get_elem?}
use prog.Atomic.{either}
use Rattle.atomic_table.specs.Table.{State, Me, Act, keeps, takes, gives, rest, stepped, carried_after, opening, Valid, Allows, Enters}
use Rattle.atomic_table.proofs.Lists.{at_set, at_snoc, at_map, at_longer, set_here, set_else, exchanged}
use Rattle.task_table.specs.declared.slot.TaskSlot.{TaskSlot}
use Rattle.task_table.specs.declared.slot.TaskSlot.TheVariants.{Waits, Ended, Out}
use Rattle.task_table.specs.declared.slot.SeatView.{SeatView}
use Rattle.task_table.specs.Slots.{Has, SomeHas, took_of, gave_of, got_of, StandsAt, TasksStand, IsSeatView, Claims, Gives, Collects, looked, took_one, gave_one, got_one}

-- There is an element at each place.
pub there : {A : Type 0} (l : List A) (i : ℕ) → i < length l → (a : A) × (get_elem? l i ≡ some a)
there [] i h = absurd (omega arith)
there (x ∷ xs) zero h = (x, refl)
there (x ∷ xs) (suc i) h = there xs i (omega arith)

-- A list of one.
one_only : {A : Type 0} (a v : A) (i : ℕ) → get_elem? (a ∷ []) i ≡ some v → v ≡ a
one_only a v zero e = sym (some-injective a v e)
one_only a v (suc i) e = absurd (some-ne-none v (sym e))

zeros : (n i : ℕ) → get_or {A = ℕ} (replicate {A = ℕ} n 0) i 0 ≡ 0
zeros zero i = refl
zeros (suc n) zero = refl
zeros (suc n) (suc i) = zeros n i

-- The place of an element is within the list.
within : {A : Type 0} (l : List A) (i : ℕ) (a : A) → get_elem? l i ≡ some a → i < length l
within [] i a e = absurd (some-ne-none a (sym e))
within (x ∷ xs) zero a e = omega arith
within (x ∷ xs) (suc i) a e = let h = within xs i a e in omega arith

-- What holds of all elements holds of the element at a place.
at_place : {A : Type 0} (P : A → Type 0) (l : List A) (i : ℕ) (a : A) → get_elem? l i ≡ some a → All P l → P a
at_place P [] i a e h = absurd (some-ne-none a (sym e))
at_place P (x ∷ xs) zero a e h = subst P (some-injective x a e) (All-head P x xs h)
at_place P (x ∷ xs) (suc i) a e h = at_place P xs i a e (All-tail P x xs h)

-- An element of a longer list.
at_cons : {A : Type 0} (x : A) (xs : List A) (y : A) (k : ℕ) → get_elem? (x ∷ xs) k ≡ some y → (x ≡ y) ⊎ Has xs y
at_cons x xs y zero e = inl (some-injective x y e)
at_cons x xs y (suc k) e = inr (k, e)

-- What holds of a word holds after a step that keeps it.
still : (P : ℕ → Type 0) (words : List ℕ) (i m : ℕ) → i < length words → (P (get_or {A = ℕ} words i 0) → P m)
    → (p : ℕ) → P (get_or {A = ℕ} words p 0) → P (get_or {A = ℕ} (set words i m) p 0)
still P words i m at rise p old =
    dite (ℕ_discrete p i)
    (λ is.
    let w : get_or {A = ℕ} (set words i m) i 0 ≡ m = get_or-set_same words i m 0 at in
    let now : P m = rise (subst (λ (n : ℕ). P (get_or {A = ℕ} words n 0)) is old) in
    subst (λ (n : ℕ). P (get_or {A = ℕ} (set words i m) n 0)) (sym is) (subst P (sym w) now))
    (λ other. subst P (sym (get_or-set_other words i p m 0 other)) old)

-- The outcome that a seat carries first.
abbrev ended_slot : {T R : Type 0} → R → TaskSlot T R → R
ended_slot other (Waits task) = other
ended_slot other (Ended outcome) = outcome
ended_slot other Out = other

abbrev ended_first : {T R : Type 0} → R → List (ℕ × TaskSlot T R) → R
ended_first other [] = other
ended_first other (x ∷ xs) = ended_slot other x.1

same_outcome : {T R : Type 0} (i : ℕ) (a b : R) (xs ys : List (ℕ × TaskSlot T R)) → (i, Ended a) ∷ xs ≡ (i, Ended b) ∷ ys → a ≡ b
same_outcome i a b xs ys e = ap (ended_first a) e

module _ {K R : Type 0} where
  -- One seat's view is replaced by one that shows no less.
  some_stays : {A : Type 0} (shown : SeatView K R → List A) (views : List (SeatView K R)) (id : ℕ) (v u : SeatView K R) → get_elem? views id ≡ some v
      → ((x : A) → Has (shown v) x → Has (shown u) x) → (x : A) → SomeHas shown views x → SomeHas shown (set views id u) x
  some_stays shown views id v u seen more x h =
      dite (ℕ_discrete h.0 id)
      (λ is.
      let same : h.1 ≡ v = some-injective h.1 v (sym h.2 ∙ (ap (get_elem? views) is ∙ seen)) in
      (id, u, set_here views id u (within views id v seen), more x (subst (λ (w : SeatView K R). Has (shown w) x) same h.3)))
      (λ other. (h.0, h.1, set_else views id h.0 u other ∙ h.2, h.3))

  some_longer : {A : Type 0} (shown : SeatView K R → List A) (views : List (SeatView K R)) (w : SeatView K R) (x : A) → SomeHas shown views x → SomeHas shown (views ++ w ∷ []) x
  some_longer shown views w x h = (h.0, h.1, at_longer views (w ∷ []) h.0 h.1 h.2, h.3)

  -- What some seat shows, some seat shows later.
  record Grew (views new : List (SeatView K R)) : Type 0 where
    took : (x : ℕ) → SomeHas took_of views x → SomeHas took_of new x
    gave : (x : ℕ × R) → SomeHas gave_of views x → SomeHas gave_of new x
    got : (x : ℕ × R) → SomeHas got_of views x → SomeHas got_of new x

  -- What one seat shows, it shows later.
  record Shows (v u : SeatView K R) : Type 0 where
    took : (x : ℕ) → Has v.took x → Has u.took x
    gave : (x : ℕ × R) → Has v.gave x → Has u.gave x
    got : (x : ℕ × R) → Has v.got x → Has u.got x

  grows : (views : List (SeatView K R)) (id : ℕ) (v u : SeatView K R) → get_elem? views id ≡ some v → Shows v u → Grew views (set views id u)
  grows views id v u seen more = record {
    took = some_stays took_of views id v u seen more.took;
    gave = some_stays gave_of views id v u seen more.gave;
    got = some_stays got_of views id v u seen more.got;
  }

  lasts : (views : List (SeatView K R)) (w : SeatView K R) → Grew views (views ++ w ∷ [])
  lasts views w = record {
    took = some_longer took_of views w;
    gave = some_longer gave_of views w;
    got = some_longer got_of views w;
  }

module _ {T R K : Type 0} (ready : T → Type 0) (ends : T → R → Type 0) (list_of : K → List T) (key : K) where
  stands_on : (views new : List (SeatView K R)) → Grew views new → (i : ℕ) (task : T) (n : ℕ) (home : Option (Option (TaskSlot T R)))
      → StandsAt ready ends views i task n home → StandsAt ready ends new i task n home
  stands_on views new g i task n home h = (
    h.0,
    (λ z. g.took i (h.1 z)),
    (λ z. let k = h.2 z in (k.0, k.1, k.2, g.gave (i, k.0) k.3)),
    (λ z. let k = h.3 z in (k.0, g.got (i, k.0) k.1)),
  )

  -- A step that changes the word and the slot of one task, and the view of one seat.
  stays : (s : State (TaskSlot T R) (SeatView K R)) → TasksStand ready ends key (list_of key) s → (id i m : ℕ) (v u : SeatView K R)
      → get_elem? s.views id ≡ some v → Shows v u
      → i < length (list_of key) → (get_or {A = ℕ} s.words i 0 ≢ 0 → m ≢ 0) → (2 ≤ get_or {A = ℕ} s.words i 0 → 2 ≤ m) → IsSeatView key (set s.words i m) (set s.views id u) u
      → (homes : List (Option (TaskSlot T R))) → length homes ≡ length s.homes
      → ((j : ℕ) → j ≢ i → get_elem? homes j ≡ get_elem? s.homes j)
      → ((task : T) → get_elem? (list_of key) i ≡ some task → StandsAt ready ends (set s.views id u) i task m (get_elem? homes i))
      → TasksStand ready ends key (list_of key) record { words = set s.words i m; homes = homes; views = set s.views id u }
  stays s h id i m v u seen more at rise rise2 own homes same others here =
      let room : i < length s.words = omega (arith, h.0) in
      let g : Grew s.views (set s.views id u) = grows s.views id v u seen more in (
        length-set s.words i m ∙ h.0,
        same ∙ h.1,
        (λ j w e. ⊎_elim
            (λ t. subst (λ (x : SeatView K R). IsSeatView key (set s.words i m) (set s.views id u) x) t.1 own)
            (λ t. let k = h.2 j w t.1 in (
              k.0,
              (λ z. still (λ n. n ≢ 0) s.words i m room rise w.place (k.1 z)),
              (λ x q. still (λ n. 2 ≤ n) s.words i m room rise2 x.0 (k.2 x q)),
              (λ x q. g.gave x (k.3 x q)),
            ))
            (at_set s.views id j u w e)),
        (λ j task e.
            dite (ℕ_discrete j i)
            (λ is.
            let e' : get_elem? (list_of key) i ≡ some task = subst (λ (n : ℕ). get_elem? (list_of key) n ≡ some task) is e in
            let w : get_or {A = ℕ} (set s.words i m) i 0 ≡ m = get_or-set_same s.words i m 0 room in
            let k : StandsAt ready ends (set s.views id u) i task (get_or {A = ℕ} (set s.words i m) i 0) (get_elem? homes i) = subst (λ (n : ℕ). StandsAt ready ends (set s.views id u) i task n (get_elem? homes i)) (sym w) (here task e') in
            subst (λ (n : ℕ). StandsAt ready ends (set s.views id u) n task (get_or {A = ℕ} (set s.words i m) n 0) (get_elem? homes n)) (sym is) k)
            (λ other.
            let k = stands_on s.views (set s.views id u) g j task (get_or {A = ℕ} s.words j 0) (get_elem? s.homes j) (h.3 j task e) in
            let k' : StandsAt ready ends (set s.views id u) j task (get_or {A = ℕ} (set s.words i m) j 0) (get_elem? s.homes j) = subst (λ (n : ℕ). StandsAt ready ends (set s.views id u) j task n (get_elem? s.homes j)) (sym (get_or-set_other s.words i j m 0 other)) k in
            subst (λ (o : Option (Option (TaskSlot T R))). StandsAt ready ends (set s.views id u) j task (get_or {A = ℕ} (set s.words i m) j 0) o) (sym (others j other)) k')),
      )

  -- A step that only reads the word of the task at i.
  looks : (s : State (TaskSlot T R) (SeatView K R)) → TasksStand ready ends key (list_of key) s → (id i : ℕ) (v : SeatView K R)
      → get_elem? s.views id ≡ some v → i < length (list_of key)
      → TasksStand ready ends key (list_of key) record { words = set s.words i (get_or {A = ℕ} s.words i 0); homes = s.homes; views = set s.views id (looked v i (get_or {A = ℕ} s.words i 0)) }
  looks s h id i v seen at =
      let n : ℕ = get_or {A = ℕ} s.words i 0 in
      let room : i < length s.words = omega (arith, h.0) in
      let u : SeatView K R = looked v i n in
      let more : Shows v u = record { took = λ x q. q; gave = λ x q. q; got = λ x q. q } in
      let g : Grew s.views (set s.views id u) = grows s.views id v u seen more in
      let old = h.2 id v seen in
      stays s h id i n v u seen more at (λ z. z) (λ z. z)
      (old.0, (λ z y. z (sym (get_or-set_same s.words i n 0 room) ∙ y)), (λ x q. still (λ k. 2 ≤ k) s.words i n room (λ z. z) x.0 (old.2 x q)), (λ x q. g.gave x (old.3 x q)))
      s.homes refl (λ j other. refl) (λ task w. stands_on s.views (set s.views id u) g i task n (get_elem? s.homes i) (h.3 i task w))

  pub claim_moves : (slots id i : ℕ) (me : Me (TaskSlot T R) (SeatView K R)) → me.0.tasks ≡ key → i < length (list_of key)
      → Allows (TasksStand ready ends key (list_of key)) slots id me i (λ n. either (n == 0) 1 n) (Claims ready (list_of me.0.tasks) me i)
  claim_moves slots id i me e at s h wide seen small =
      let n : ℕ = get_or {A = ℕ} s.words i 0 in
      let room : i < length s.words = omega (arith, h.0) in
      let old = h.2 id me.0 seen in
      exchanged n 0 1
      (λ m. (w : SeatView K R) × (a : Act (TaskSlot T R)) × Valid s.homes me.1 a × TasksStand ready ends key (list_of key) (stepped s i m id me.1 w a) × Claims ready (list_of me.0.tasks) me i n (w, carried_after me.1 a))
      (λ free.
      let t = there (list_of key) i at in
      let k = (h.3 i t.0 t.1).0 free in
      let u : SeatView K R = took_one me.0 i in
      let more : Shows me.0 u = record { took = λ x q. (suc q.0, q.1); gave = λ x q. q; got = λ x q. q } in
      let g : Grew s.views (set s.views id u) = grows s.views id me.0 u seen more in (
        u,
        takes i (Waits t.0),
        k.0,
        stays s h id i 1 me.0 u seen more at (λ z. absurd (z free)) (λ z. absurd (omega (arith, free)))
            (old.0, (λ z. absurd (z refl)), (λ x q. still (λ p. 2 ≤ p) s.words i 1 room (λ z. absurd (omega (arith, free))) x.0 (old.2 x q)), (λ x q. g.gave x (old.3 x q)))
            (set s.homes i none) (length-set s.homes i none) (λ j other. set_else s.homes i j none other)
            (λ task w. ((λ z. absurd (omega arith)), (λ z. (id, u, set_here s.views id u (within s.views id me.0 seen), (0, refl))), (λ z. absurd (omega arith)), (λ z. absurd (omega arith)))),
        ((refl, refl, refl), (λ z. (t.0, subst (λ v. get_elem? (list_of v) i ≡ some t.0) (sym e) t.1, k.1, refl, refl)), (λ z. absurd (z free))),
      ))
      (λ taken. (
        looked me.0 i n,
        keeps,
        tt,
        looks s h id i me.0 seen at,
        ((refl, refl, refl), (λ z. absurd (taken z)), (λ z. (refl, refl))),
      ))

  pub collect_moves : (slots id i : ℕ) (me : Me (TaskSlot T R) (SeatView K R)) → me.0.tasks ≡ key → i < length (list_of key)
      → Allows (TasksStand ready ends key (list_of key)) slots id me i (λ n. either (n == 2) 3 n) (Collects ends (list_of me.0.tasks) me i)
  collect_moves slots id i me e at s h wide seen small =
      let n : ℕ = get_or {A = ℕ} s.words i 0 in
      let room : i < length s.words = omega (arith, h.0) in
      let old = h.2 id me.0 seen in
      exchanged n 2 3
      (λ m. (w : SeatView K R) × (a : Act (TaskSlot T R)) × Valid s.homes me.1 a × TasksStand ready ends key (list_of key) (stepped s i m id me.1 w a) × Collects ends (list_of me.0.tasks) me i n (w, carried_after me.1 a))
      (λ ended.
      let t = there (list_of key) i at in
      let k = (h.3 i t.0 t.1).2 ended in
      let u : SeatView K R = got_one me.0 i k.0 in
      let more : Shows me.0 u = record { took = λ x q. q; gave = λ x q. q; got = λ x q. (suc q.0, q.1) } in
      let g : Grew s.views (set s.views id u) = grows s.views id me.0 u seen more in (
        u,
        takes i (Ended k.0),
        k.1,
        stays s h id i 3 me.0 u seen more at (λ z y. absurd (omega arith)) (λ z. omega arith) (
          old.0,
          (λ z y. let w : get_or {A = ℕ} (set s.words i 3) i 0 ≡ 3 = get_or-set_same s.words i 3 0 room in let f : 3 ≡ 0 = sym w ∙ y in absurd (omega arith)),
          (λ x q. still (λ p. 2 ≤ p) s.words i 3 room (λ z. omega arith) x.0 (old.2 x q)),
          (λ x q. ⊎_elim
              (λ is. subst (λ (y : ℕ × R). SomeHas gave_of (set s.views id u) y) is (g.gave (i, k.0) k.3))
              (λ before. g.gave x (old.3 x before))
              (at_cons (i, k.0) me.0.got x q.0 q.1)),
        )
            (set s.homes i none) (length-set s.homes i none) (λ j other. set_else s.homes i j none other)
            (λ task w. ((λ z. absurd (omega arith)), (λ z. absurd (omega arith)), (λ z. absurd (omega arith)), (λ z. (k.0, (id, u, set_here s.views id u (within s.views id me.0 seen), (0, refl)))))),
        ((refl, refl, refl), (λ z. (t.0, k.0, subst (λ v. get_elem? (list_of v) i ≡ some t.0) (sym e) t.1, k.2, refl, refl)), (λ z. absurd (z ended))),
      ))
      (λ other. (
        looked me.0 i n,
        keeps,
        tt,
        looks s h id i me.0 seen at,
        ((refl, refl, refl), (λ z. absurd (other z)), (λ z. (refl, refl))),
      ))

  pub give_moves : (slots id i : ℕ) (me : Me (TaskSlot T R) (SeatView K R)) (v : SeatView K R) (outcome : R) (held : List (ℕ × TaskSlot T R)) → me ≡ (v, (i, Ended outcome) ∷ held) → i < length (list_of key)
      → ((task : T) → get_elem? (list_of key) i ≡ some task → ends task outcome)
      → Allows (TasksStand ready ends key (list_of key)) slots id me i (λ _. 2) (λ _ after. Gives me i after)
  give_moves slots id i me v outcome held e at ok =
      subst (λ (x : Me (TaskSlot T R) (SeatView K R)). Allows (TasksStand ready ends key (list_of key)) slots id x i (λ _. 2) (λ _ after. Gives x i after)) (sym e)
      (λ s h wide seen small.
      let room : i < length s.words = omega (arith, h.0) in
      let old = h.2 id v seen in
      let u : SeatView K R = gave_one v i outcome in
      let more : Shows v u = record { took = λ x q. q; gave = λ x q. (suc q.0, q.1); got = λ x q. q } in
      let g : Grew s.views (set s.views id u) = grows s.views id v u seen more in
      let now : get_or {A = ℕ} (set s.words i 2) i 0 ≡ 2 = get_or-set_same s.words i 2 0 room in (
        u,
        gives,
        tt,
        stays s h id i 2 v u seen more at (λ z y. absurd (omega arith)) (λ z. omega arith) (
          old.0,
          (λ z. still (λ p. p ≢ 0) s.words i 2 room (λ x y. absurd (omega arith)) v.place (old.1 z)),
          (λ x q. ⊎_elim
              (λ is. subst (λ (y : ℕ × R). 2 ≤ get_or {A = ℕ} (set s.words i 2) y.0 0) is (omega (arith, now)))
              (λ before. still (λ p. 2 ≤ p) s.words i 2 room (λ z. omega arith) x.0 (old.2 x before))
              (at_cons (i, outcome) v.gave x q.0 q.1)),
          (λ x q. g.gave x (old.3 x q)),
        )
            (set s.homes i (some (Ended outcome))) (length-set s.homes i (some (Ended outcome))) (λ j other. set_else s.homes i j (some (Ended outcome)) other)
            (λ task w. ((λ z. absurd (omega arith)), (λ z. absurd (omega arith)), (λ z. (outcome, set_here s.homes i (some (Ended outcome)) (omega (arith, h.1)), ok task w, (id, u, set_here s.views id u (within s.views id v seen), (0, refl)))), (λ z. absurd (omega arith)))),
        (λ other is. let stored : R → Me (TaskSlot T R) (SeatView K R) = λ o. (gave_one v i o, held) in ap stored (same_outcome i outcome other held held is)),
      ))

  pub sits : (slots : ℕ) → Enters (TasksStand ready ends key (list_of key)) slots 0 (λ n w. (w.tasks ≡ key) × (w.took ≡ []) × (w.gave ≡ []) × (w.got ≡ []))
  sits slots s h wide small =
      let w : SeatView K R = record { tasks = key; place = 0; found = get_or {A = ℕ} s.words 0 0; took = []; gave = []; got = [] } in
      let g : Grew s.views (s.views ++ w ∷ []) = lasts s.views w in
      let own : IsSeatView key s.words (s.views ++ w ∷ []) w = (refl, (λ z. z), (λ x q. absurd (some-ne-none x (sym q.1))), (λ x q. absurd (some-ne-none x (sym q.1)))) in (
        w,
        (
          h.0,
          h.1,
          (λ j v e. ⊎_elim
              (λ t. let k = h.2 j v t in (k.0, k.1, k.2, λ x q. g.gave x (k.3 x q)))
              (λ t. subst (λ (x : SeatView K R). IsSeatView key s.words (s.views ++ w ∷ []) x) t own)
              (at_snoc s.views w v j e)),
          (λ i task e. stands_on s.views (s.views ++ w ∷ []) g i task (get_or {A = ℕ} s.words i 0) (get_elem? s.homes i) (h.3 i task e)),
        ),
        (refl, refl, refl, refl),
      )

  pub opens : (words : List ℕ) (slots : List (TaskSlot T R)) → All ready (list_of key) → words ≡ replicate (length (list_of key)) 0 → slots ≡ map (λ task. Waits task) (list_of key)
      → TasksStand ready ends key (list_of key) (opening words slots record { tasks = key; place = 0; found = 0; took = []; gave = []; got = [] })
  opens words slots all ew es =
      let first : SeatView K R = record { tasks = key; place = 0; found = 0; took = []; gave = []; got = [] } in
      let zs : List ℕ = replicate (length (list_of key)) 0 in
      subst (λ (ws : List ℕ). TasksStand ready ends key (list_of key) (opening ws slots first)) (sym ew)
      (subst (λ (xs : List (TaskSlot T R)). TasksStand ready ends key (list_of key) (opening zs xs first)) (sym es) (
        length-replicate {A = ℕ} (length (list_of key)) 0,
        length-map (map (λ task. Waits task) (list_of key)) some ∙ length-map (list_of key) (λ task. Waits task),
        (λ id v e. subst (λ (x : SeatView K R). IsSeatView key zs (first ∷ []) x) (sym (one_only first v id e)) (refl, (λ z. absurd (z refl)), (λ x q. absurd (some-ne-none x (sym q.1))), (λ x q. absurd (some-ne-none x (sym q.1))))),
        (λ i task e.
            let none_claimed : get_or {A = ℕ} zs i 0 ≡ 0 = zeros (length (list_of key)) i in (
              (λ z. (
                at_map some (map (λ task. Waits task) (list_of key)) i (Waits task) (at_map (λ task. Waits task) (list_of key) i task e),
                at_place ready (list_of key) i task e all,
              )),
              (λ z. absurd (omega (arith, none_claimed))),
              (λ z. absurd (omega (arith, none_claimed))),
              (λ z. absurd (omega (arith, none_claimed))),
            )),
      ))

-- After an outcome was put in place of what the seat carried, and stored.
pub given : {T R K : Type 0} (i : ℕ) (outcome : R) (old mid after : Me (TaskSlot T R) (SeatView K R)) → mid ≡ (old.0, (i, Ended outcome) ∷ rest old.1) → Gives mid i after
    → after ≡ (gave_one old.0 i outcome, rest old.1)
given i outcome old mid after e h =
    h outcome (ap (λ m. m.1) e ∙ sym (ap (λ m. (i, Ended outcome) ∷ rest m.1) e)) ∙ ap (λ m. (gave_one m.0 i outcome, rest m.1)) e
