-- What a piece touches in both programs: the same cells outside accumulating arrays, and cells of its own row.
use Rattle.std.proofs.Common.{◌≡◌, ℕ, zero, suc, ◌+◌, ◌*◌, ◌<◌, ◌≤◌, Bool, true, false, List, [], ◌∷◌, ◌++◌, Option, Some, None, ℤ, pos, ◌+ℤ◌, refl, sym, ap, ◌∙◌, subst, arith, ◌⊎◌, inl, inr, ⊎_elim}
use Rattle.std.specs.Prelude.{if◌then◌else◌}
use Rattle.std.specs.Cmp.Lexicographic.{same_text}
use Rattle.std.proofs.lemmas.Int.{ints}
use Rattle.std.proofs.lemmas.Bool.{false≢true, both_ways, false_from_ne_true}
use Rattle.array_tree.specs.Trees.{Expression, Number, Var, Read, Neg, Binary}
use Rattle.array_tree.specs.Equal.{name_eq}
use Rattle.array_meaning.specs.Values.{wrapping_minus, applied}
use Rattle.array_meaning.specs.Stores.{Arrays, Vars, Store, base_of, length_of, cells_of, is_dynamic, value_of}
use Rattle.array_meaning.specs.Steps.{Steps, Done, Set, Choose, followed_by}
use Rattle.array_meaning.specs.Work.{turns}
use Rattle.array_meaning.specs.Touch.{Visit, visit, reads_in, walk, Covers, Touches}
use Rattle.array_meaning.specs.Names.{is_among}
use Rattle.array_meaning.specs.Accepted.{is_inside}
use Rattle.array_meaning.specs.Pieces.{IsMember}
use Rattle.array_meaning.proofs.FrameLemmas.{or_false, walk_followed_by, touched_left, touched_right, touched_either}
use Rattle.array_meaning.proofs.InsideLemmas.{names_in, array_inside}
use Rattle.spread_laws.specs.Adds.{is_sum}
use Rattle.spread_laws.specs.Apart.{IsSumCell}
use Rattle.spread_laws.proofs.Owing.{Tally}
use Rattle.spread_laws.proofs.Free.{AreFine, AreKept, fine_first, place_inside}
use Rattle.spread_laws.proofs.Behind.{names_apart}
use Rattle.spread_laws.proofs.Named.{AreSingle, member_named}
use Rattle.spread_laws.proofs.Built.{length_single}

-- ---- a walk is the same whatever the arrays are

module _ (old new : Arrays) where
  pub static_same : (vars : Vars) (e : Expression) (s : Store) → is_dynamic e ≡ false → value_of new vars e s ≡ value_of old vars e s
  static_same vars (Number n) s h = refl
  static_same vars (Var name) s h = refl
  static_same vars (Read name e) s h = absurd (false≢true (sym h))
  static_same vars (Neg e) s h = ap wrapping_minus (static_same vars e s h)
  static_same vars (Binary op a b) s h =
      let both = or_false (is_dynamic a) (is_dynamic b) h in
      ap (λ x. applied op x (value_of new vars b s)) (static_same vars a s both.0)
      ∙ ap (applied op (value_of old vars a s)) (static_same vars b s both.1)

  index_same : (vars : Vars) (e : Expression) (d : Bool) → is_dynamic e ≡ d
      → (if d then None else Some (value_of new vars e [])) ≡ (if d then None else Some (value_of old vars e []))
  index_same vars e true h = refl
  index_same vars e false h = ap (λ (z : ℤ). Some z) (static_same vars e [] h)

  abbrev made : ℕ → Bool → List ℕ → Option ℤ → Visit
  made line w x i = record { line = line; writes = w; array = x; index = i }

  visit_same : (line : ℕ) (w : Bool) (vars : Vars) (x : List ℕ) (e : Expression) → visit new line w vars x e ≡ visit old line w vars x e
  visit_same line w vars x e = ap (made line w x) (index_same vars e (is_dynamic e) refl)

  reads_same : (line : ℕ) (vars : Vars) (e : Expression) → reads_in new line vars e ≡ reads_in old line vars e
  reads_same line vars (Number n) = refl
  reads_same line vars (Var name) = refl
  reads_same line vars (Read x e) =
      ap (λ vs. vs ++ visit new line false vars x e ∷ []) (reads_same line vars e)
      ∙ ap (λ v. reads_in old line vars e ++ v ∷ []) (visit_same line false vars x e)
  reads_same line vars (Neg e) = reads_same line vars e
  reads_same line vars (Binary op a b) =
      ap (λ vs. vs ++ reads_in new line vars b) (reads_same line vars a) ∙ ap (λ vs. reads_in old line vars a ++ vs) (reads_same line vars b)

  walk_same : (steps : Steps) → walk new steps ≡ walk old steps
  walk_same Done = refl
  walk_same (Set line vars x i e rest) =
      ap (λ vs. vs ++ (reads_in new line vars e ++ (visit new line true vars x i ∷ walk new rest))) (reads_same line vars i)
      ∙ ap (λ vs. reads_in old line vars i ++ (vs ++ (visit new line true vars x i ∷ walk new rest))) (reads_same line vars e)
      ∙ ap (λ v. reads_in old line vars i ++ (reads_in old line vars e ++ (v ∷ walk new rest))) (visit_same line true vars x i)
      ∙ ap (λ vs. reads_in old line vars i ++ (reads_in old line vars e ++ (visit old line true vars x i ∷ vs))) (walk_same rest)
  walk_same (Choose line vars test a b rest) =
      ap (λ vs. vs ++ (walk new a ++ (walk new b ++ walk new rest))) (reads_same line vars test)
      ∙ ap (λ vs. reads_in old line vars test ++ (vs ++ (walk new b ++ walk new rest))) (walk_same a)
      ∙ ap (λ vs. reads_in old line vars test ++ (walk old a ++ (vs ++ walk new rest))) (walk_same b)
      ∙ ap (λ vs. reads_in old line vars test ++ (walk old a ++ (walk old b ++ vs))) (walk_same rest)

-- A static expression reads nothing.
pub static_reads : (arrays : Arrays) (line : ℕ) (vars : Vars) (e : Expression) → is_dynamic e ≡ false → reads_in arrays line vars e ≡ []
static_reads arrays line vars (Number n) h = refl
static_reads arrays line vars (Var name) h = refl
static_reads arrays line vars (Read name e) h = absurd (false≢true (sym h))
static_reads arrays line vars (Neg e) h = static_reads arrays line vars e h
static_reads arrays line vars (Binary op a b) h =
    let both = or_false (is_dynamic a) (is_dynamic b) h in
    ap (λ vs. vs ++ reads_in arrays line vars b) (static_reads arrays line vars a both.0) ∙ static_reads arrays line vars b both.1

-- ---- visits to no accumulating array

abbrev pub AreClean : List Visit → Type 0
AreClean [] = Unit {0}
AreClean (v ∷ more) = (is_sum v.array ≡ false) × AreClean more

pub clean_join : (xs ys : List Visit) → AreClean xs → AreClean ys → AreClean (xs ++ ys)
clean_join [] ys f g = g
clean_join (v ∷ xs) ys f g = (f.0, clean_join xs ys f.1 g)

-- A touched cell isn't one of an accumulating array.
abbrev IsPlain : Arrays → ℕ → Type 0
IsPlain old c = (c < cells_of old) × (IsSumCell old c → ⊥)

module _ (old : Arrays) (once : AreSingle old) where
  visit_plain : (v : Visit) (more : List Visit) (c : ℕ) → AreFine old (v ∷ more) → is_sum v.array ≡ false → Covers old v.array v.index c → IsPlain old c
  visit_plain v more c fine clean cov =
      let f = fine_first old v more fine in
      let own : (base_of old v.array ≤ c) × (c < base_of old v.array + length_of old v.array) = inside v.index f.1 cov in
      let within = array_inside old v.array f.0 in
      let low = own.0 in
      let high = own.1 in (
        omega (arith, high, within),
        λ s.
            let y = s.array.0 in
            let known = member_named old s.array s.declared in
            let size = length_single old once s.array s.declared in
            let from = s.from in
            let below = s.below in
            let other : name_eq v.array y ≡ false = false_from_ne_true (name_eq v.array y) (λ t. both_ways (is_sum v.array) clean (subst (λ z. is_sum z ≡ true) (sym (same_text v.array y (sym t))) s.sum)) in
            ⊎_elim (λ l. omega (arith, low, high, from, below, size, l))
            (λ r. ⊎_elim (λ l. omega (arith, low, high, from, below, size, l))
            (λ r. ⊎_elim (λ absent. both_ways _ absent f.0) (λ absent. both_ways _ absent known) r) r)
            (names_apart old v.array y other),
      )
    where
      inside : (index : Option ℤ) → is_inside (length_of old v.array) index ≡ true → Covers old v.array index c → (base_of old v.array ≤ c) × (c < base_of old v.array + length_of old v.array)
      inside (Some i) h cov = let p = place_inside (length_of old v.array) i h in let small = p.1 in (omega (arith, cov), omega (arith, cov, small))
      inside None h cov = cov

  pub touched_plain : (w : Bool) (vs : List Visit) (c : ℕ) → AreFine old vs → AreClean vs → Touches old w vs c → IsPlain old c
  touched_plain w [] c fine clean h = absurd h
  touched_plain w (v ∷ vs) c fine clean (inl h) = visit_plain v vs c fine clean.0 h.1
  touched_plain w (v ∷ vs) c fine clean (inr h) = touched_plain w vs c (fine_first old v vs fine).2 clean.1 h

-- ---- visits of known arrays touch the same cells with the arrays that are kept

module _ (old new : Arrays) (kept : AreKept old new) where
  covers_new : (x : List ℕ) (index : Option ℤ) (c : ℕ) → is_among x (names_in old) ≡ true → Covers old x index c → Covers new x index c
  covers_new x (Some i) c known cov = let b = kept.base x known in omega (arith, cov, b)
  covers_new x None c known cov = let b = kept.base x known in let n = kept.size x known in let l = cov.0 in let h = cov.1 in (omega (arith, l, b), omega (arith, h, b, n))

  covers_old : (x : List ℕ) (index : Option ℤ) (c : ℕ) → is_among x (names_in old) ≡ true → Covers new x index c → Covers old x index c
  covers_old x (Some i) c known cov = let b = kept.base x known in omega (arith, cov, b)
  covers_old x None c known cov = let b = kept.base x known in let n = kept.size x known in let l = cov.0 in let h = cov.1 in (omega (arith, l, b), omega (arith, h, b, n))

  touches_new : (w : Bool) (vs : List Visit) (c : ℕ) → AreFine old vs → Touches old w vs c → Touches new w vs c
  touches_new w [] c fine h = h
  touches_new w (v ∷ vs) c fine (inl h) = inl (h.0, covers_new v.array v.index c (fine_first old v vs fine).0 h.1)
  touches_new w (v ∷ vs) c fine (inr h) = inr (touches_new w vs c (fine_first old v vs fine).2 h)

  touches_old : (w : Bool) (vs : List Visit) (c : ℕ) → AreFine old vs → Touches new w vs c → Touches old w vs c
  touches_old w [] c fine h = h
  touches_old w (v ∷ vs) c fine (inl h) = inl (h.0, covers_old v.array v.index c (fine_first old v vs fine).0 h.1)
  touches_old w (v ∷ vs) c fine (inr h) = inr (touches_old w vs c (fine_first old v vs fine).2 h)

-- ---- the relation

module _ (old new : Arrays) (rows : ℕ) (ts : List Tally) where
  -- A cell of row k of some array.
  pub record IsInRow (k c : ℕ) : Type 0 where
    pub tally : Tally
    pub member : IsMember tally ts
    pub less : k < rows
    pub from : tally.first + k * tally.size ≤ c
    pub below : c < tally.first + (k * tally.size + tally.size)

  -- Visits of the given program, and those of the spread one.
  pub record Tracks (k : ℕ) (vs us : List Visit) : Type 0 where
    pub to : (w : Bool) (c : ℕ) → Touches new w us c → (Touches old w vs c × (c < cells_of old) × (IsSumCell old c → ⊥)) ⊎ IsInRow k c
    pub from : (w : Bool) (c : ℕ) → Touches old w vs c → IsSumCell old c ⊎ Touches new w us c

  pub no_tracks : (k : ℕ) → Tracks k [] []
  no_tracks k = record { to = λ w c h. absurd h; from = λ w c h. absurd h }

  pub join_tracks : (k : ℕ) (xs ys us vs : List Visit) → Tracks k xs us → Tracks k ys vs → Tracks k (xs ++ ys) (us ++ vs)
  join_tracks k xs ys us vs f g = record {
    to = λ w c h. ⊎_elim
        (λ l. ⊎_elim (λ p. inl (touched_left old w xs ys c p.0, p.1, p.2)) (λ r. inr r) (f.to w c l))
        (λ r. ⊎_elim (λ p. inl (touched_right old w xs ys c p.0, p.1, p.2)) (λ r. inr r) (g.to w c r))
        (touched_either new w us vs c h);
    from = λ w c h. ⊎_elim
        (λ l. ⊎_elim (λ p. inl p) (λ r. inr (touched_left new w us vs c r)) (f.from w c l))
        (λ r. ⊎_elim (λ p. inl p) (λ r. inr (touched_right new w us vs c r)) (g.from w c r))
        (touched_either old w xs ys c h);
  }

  pub then_tracks : (k : ℕ) (a a' b b' : Steps) → Tracks k (walk old a) (walk new b) → Tracks k (walk old a') (walk new b')
      → Tracks k (walk old (followed_by a a')) (walk new (followed_by b b'))
  then_tracks k a a' b b' f g =
      subst (λ vs. Tracks k vs (walk new (followed_by b b'))) (sym (walk_followed_by old a a'))
      (subst (Tracks k (walk old a ++ walk old a')) (sym (walk_followed_by new b b'))
      (join_tracks k (walk old a) (walk old a') (walk new b) (walk new b') f g))

  pub turns_tracks : (k : ℕ) (f g : ℤ → Steps) (low : ℤ) (n : ℕ) → ((i : ℕ) → i < n → Tracks k (walk old (f (low +ℤ pos i))) (walk new (g (low +ℤ pos i))))
      → Tracks k (walk old (turns f low n)) (walk new (turns g low n))
  turns_tracks k f g low zero each = no_tracks k
  turns_tracks k f g low (suc n) each =
      let none : low +ℤ pos 0 ≡ low = omega (arith, ints) in
      then_tracks k (f low) (turns f (low +ℤ pos 1) n) (g low) (turns g (low +ℤ pos 1) n)
      (subst (λ x. Tracks k (walk old (f x)) (walk new (g x))) none (each 0 (omega arith)))
      (turns_tracks k f g (low +ℤ pos 1) n (λ i lt.
      let next : low +ℤ pos (suc i) ≡ low +ℤ pos 1 +ℤ pos i = omega (arith, ints) in
      subst (λ x. Tracks k (walk old (f x)) (walk new (g x))) next (each (suc i) (omega arith))))

  module _ (kept : AreKept old new) (once : AreSingle old) where
    pub same_tracks : (k : ℕ) (vs : List Visit) → AreFine old vs → AreClean vs → Tracks k vs vs
    same_tracks k vs fine clean = record {
      to = λ w c h.
          let t = touches_old old new kept w vs c fine h in
          let p = touched_plain old once w vs c fine clean t in
          inl (t, p.0, p.1);
      from = λ w c h. inr (touches_new old new kept w vs c fine h);
    }

    pub reads_tracks : (k line : ℕ) (vars : Vars) (e : Expression) → AreFine old (reads_in old line vars e) → AreClean (reads_in old line vars e)
        → Tracks k (reads_in old line vars e) (reads_in new line vars e)
    reads_tracks k line vars e fine clean =
        subst (Tracks k (reads_in old line vars e)) (sym (reads_same old new line vars e)) (same_tracks k (reads_in old line vars e) fine clean)

    -- Equal steps in both programs.
    pub steps_tracks : (k : ℕ) (a : Steps) → AreFine old (walk old a) → AreClean (walk old a) → Tracks k (walk old a) (walk new a)
    steps_tracks k a fine clean =
        subst (Tracks k (walk old a)) (sym (walk_same old new a)) (same_tracks k (walk old a) fine clean)
