-- Lists of which some elements are changed.
use Rattle.std.proofs.Common.{◌≡◌, ◌≢◌, ◌⊎◌, inl, inr, ℕ, zero, suc, ◌+◌, ◌<◌, ◌≤◌, Bool, true, false, List, [], ◌∷◌, length, map, Some, refl, sym, ap, ◌∙◌, subst, arith, length-set, get_or}
use Rattle.std.specs.Prelude.{slice_get, slice_set, if◌then◌else◌}
use Rattle.std.proofs.lemmas.Bool.{cases_lt, cases_eq}
use Rattle.std.proofs.lemmas.Option.{slice_get_read, same_Some}
use Rattle.join_book.proofs.BookLemmas.{at_other}
use Rattle.pipe_sched.specs.Slots.{changed_where}

-- ---- one element

pub at_own : {A : Type 0} (xs : List A) (i : ℕ) (x : A) → i < length xs → slice_get (slice_set xs i x) i ≡ Some x
at_own [] i x less = absurd (omega arith)
at_own (y ∷ xs) zero x less = refl
at_own (y ∷ xs) (suc i) x less = at_own xs i x (omega arith)

-- ---- the elements whose index passes the test

pub changed_back : {A : Type 0} (test : ℕ → Bool) (f : A → A) (s : ℕ) (xs : List A) (i : ℕ) (y : A) → slice_get (changed_where test f s xs) i ≡ Some y →
    (x : A) × (slice_get xs i ≡ Some x) × (y ≡ (if test (s + i) then f x else x))
changed_back test f s [] i y e = absurd (cc)
changed_back test f s (x ∷ xs) zero y e =
    let none : s ≡ s + 0 = omega arith in
    (x, refl, sym (same_Some (if test s then f x else x) y e) ∙ ap (λ p. if test p then f x else x) none)
changed_back test f s (x ∷ xs) (suc i) y e =
    let rest = changed_back test f (s + 1) xs i y e in
    let next : s + 1 + i ≡ s + suc i = omega arith in
    (rest.0, rest.1, rest.2 ∙ ap (λ p. if test p then f rest.0 else rest.0) next)

pub changed_at : {A : Type 0} (test : ℕ → Bool) (f : A → A) (s : ℕ) (xs : List A) (i : ℕ) (x : A) → slice_get xs i ≡ Some x →
    slice_get (changed_where test f s xs) i ≡ Some (if test (s + i) then f x else x)
changed_at test f s [] i x e = absurd (cc)
changed_at test f s (y ∷ xs) zero x e =
    let none : s ≡ s + 0 = omega arith in
    ap (λ z. Some (if test s then f z else z)) (same_Some y x e) ∙ ap (λ p. Some (if test p then f x else x)) none
changed_at test f s (y ∷ xs) (suc i) x e =
    let next : s + 1 + i ≡ s + suc i = omega arith in
    changed_at test f (s + 1) xs i x e ∙ ap (λ p. Some (if test p then f x else x)) next

pub changed_length : {A : Type 0} (test : ℕ → Bool) (f : A → A) (s : ℕ) (xs : List A) → length (changed_where test f s xs) ≡ length xs
changed_length test f s [] = refl
changed_length test f s (x ∷ xs) = ap suc (changed_length test f (s + 1) xs)

-- The change in a model of each element.
pub changed_map : {A B : Type 0} (test : ℕ → Bool) (f : A → A) (g : B → B) (v : A → B) → ((x : A) → v (f x) ≡ g (v x)) → (s : ℕ) (xs : List A) →
    map v (changed_where test f s xs) ≡ changed_where test g s (map v xs)
changed_map test f g v same s [] = refl
changed_map test f g v same s (x ∷ xs) =
    ap (λ y. y ∷ map v (changed_where test f (s + 1) xs)) (by_test (test s))
    ∙ ap (λ l. (if test s then g (v x) else v x) ∷ l) (changed_map test f g v same (s + 1) xs)
  where
    by_test : (b : Bool) → v (if b then f x else x) ≡ (if b then g (v x) else v x)
    by_test true = same x
    by_test false = refl

-- ---- one by one

-- Of all elements those below an index are changed, and the others are unchanged.
pub record IsChanging {A : Type 0} (test : ℕ → Bool) (f : A → A) (all now : List A) (place : ℕ) : Type 0 where
  pub size : length now ≡ length all
  pub done : (i : ℕ) (x : A) → i < place → slice_get all i ≡ Some x → slice_get now i ≡ Some (if test i then f x else x)
  pub rest : (i : ℕ) → place ≤ i → slice_get now i ≡ slice_get all i

pub none_changed : {A : Type 0} (test : ℕ → Bool) (f : A → A) (all : List A) → IsChanging test f all all 0
none_changed test f all = record { size = refl; done = λ i x less e. absurd (omega arith); rest = λ i le. refl }

-- The next element passes.
pub one_changed : {A : Type 0} (test : ℕ → Bool) (f : A → A) (all now : List A) (place : ℕ) (x y : A) → place < length now →
    x ≡ get_or now place x → y ≡ f x → test place ≡ true → IsChanging test f all now place → IsChanging test f all (slice_set now place y) (place + 1)
one_changed {A} test f all now place x y less is to passes changing = record {
  size = length-set now place y ∙ changing.size;
  done = λ i z lt e. by_place i z lt e (cases_eq i place);
  rest = λ i le. at_other now place i y (λ same. absurd (omega arith)) ∙ changing.rest i (omega arith);
}
  where
    here : slice_get now place ≡ Some x
    here = slice_get_read now (length now) place x refl less is

    by_place : (i : ℕ) (z : A) → i < place + 1 → slice_get all i ≡ Some z → (i ≡ place) ⊎ (i ≢ place) →
        slice_get (slice_set now place y) i ≡ Some (if test i then f z else z)
    by_place i z lt e (inl same) =
        let old : slice_get now place ≡ slice_get all place = changing.rest place (omega arith) in
        let P : ℕ → Type 0 = λ m. slice_get all m ≡ Some z in
        let own : x ≡ z = same_Some x z (sym here ∙ old ∙ subst P same e) in
        let Q : ℕ → Type 0 = λ m. slice_get (slice_set now place y) m ≡ Some (if test m then f z else z) in
        subst Q (sym same) (at_own now place y less ∙ ap Some (to ∙ ap f own) ∙ ap (λ b. Some (if b then f z else z)) (sym passes))
    by_place i z lt e (inr ne) = at_other now place i y ne ∙ changing.done i z (omega arith) e

-- The next element doesn't pass.
pub one_kept : {A : Type 0} (test : ℕ → Bool) (f : A → A) (all now : List A) (place : ℕ) → test place ≡ false →
    IsChanging test f all now place → IsChanging test f all now (place + 1)
one_kept {A} test f all now place fails changing = record {
  size = changing.size;
  done = λ i z lt e. by_place i z lt e (cases_eq i place);
  rest = λ i le. changing.rest i (omega arith);
}
  where
    by_place : (i : ℕ) (z : A) → i < place + 1 → slice_get all i ≡ Some z → (i ≡ place) ⊎ (i ≢ place) →
        slice_get now i ≡ Some (if test i then f z else z)
    by_place i z lt e (inl same) =
        let P : ℕ → Type 0 = λ m. slice_get all m ≡ Some z in
        let Q : ℕ → Type 0 = λ m. slice_get now m ≡ Some (if test m then f z else z) in
        subst Q (sym same) (changing.rest place (omega arith) ∙ subst P same e ∙ ap (λ b. Some (if b then f z else z)) (sym fails))
    by_place i z lt e (inr ne) = changing.done i z (omega arith) e

same_lists : {A : Type 0} (test : ℕ → Bool) (f : A → A) (s : ℕ) (all now : List A) → length now ≡ length all →
    ((i : ℕ) (x : A) → slice_get all i ≡ Some x → slice_get now i ≡ Some (if test (s + i) then f x else x)) → now ≡ changed_where test f s all
same_lists test f s [] [] e each = refl
same_lists test f s [] (y ∷ now) e each = absurd (omega (arith, e))
same_lists test f s (x ∷ all) [] e each = absurd (omega (arith, e))
same_lists test f s (x ∷ all) (y ∷ now) e each =
    let none : s + 0 ≡ s = omega arith in
    let first : y ≡ (if test (s + 0) then f x else x) = same_Some y _ (each zero x refl) in
    let rest = same_lists test f (s + 1) all now (omega (arith, e))
    (λ i z here.
    let next : s + suc i ≡ s + 1 + i = omega arith in
    each (suc i) z here ∙ ap (λ p. Some (if test p then f z else z)) next) in
    ap (λ w. w ∷ now) (first ∙ ap (λ p. if test p then f x else x) none) ∙ ap (λ l. (if test s then f x else x) ∷ l) rest

past_end : {A : Type 0} (xs : List A) (i : ℕ) (x : A) → slice_get xs i ≡ Some x → length xs ≤ i → ⊥
past_end [] i x e le = cc
past_end (y ∷ xs) zero x e le = omega arith
past_end (y ∷ xs) (suc i) x e le = past_end xs i x e (omega arith)

-- At the end all elements are changed.
pub all_changed : {A : Type 0} (test : ℕ → Bool) (f : A → A) (all now : List A) (place : ℕ) → length now ≤ place →
    IsChanging test f all now place → now ≡ changed_where test f 0 all
all_changed {A} test f all now place end changing = same_lists test f 0 all now changing.size each
  where
    each : (i : ℕ) (x : A) → slice_get all i ≡ Some x → slice_get now i ≡ Some (if test (0 + i) then f x else x)
    each i x e = by_end (cases_lt i place)
      where
        none : i ≡ 0 + i
        none = omega arith

        by_end : (i < place) ⊎ (place ≤ i) → slice_get now i ≡ Some (if test (0 + i) then f x else x)
        by_end (inl less) = changing.done i x less e ∙ ap (λ p. Some (if test p then f x else x)) none
        by_end (inr le) = absurd (past_end all i x e (let same = changing.size in omega arith))
