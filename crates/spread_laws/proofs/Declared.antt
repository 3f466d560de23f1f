-- The positions of an array's rows, and how many cells they have.
use Rattle.std.proofs.Common.{◌≡◌, ℕ, ◌*◌, ◌≤◌, Bool, true, false, List, [], ◌∷◌, ◌++◌, map, refl, sym, ap, ◌∙◌, subst, ◌⊎◌, inl, inr, ⊎_elim, arith}
use Rattle.std.specs.Prelude.{max, unsigned_abs}
use Rattle.std.specs.List.{filter}
use Rattle.std.specs.Cmp.Lexicographic.{same_text}
use Rattle.std.proofs.Math.Nat.{le-max_left, le-max_right}
use Rattle.std.proofs.lemmas.Bool.{false≢true, or_cases, or_left, or_right, cases_Bool}
use Rattle.array_tree.specs.Trees.{Sequence, Declaration}
use Rattle.array_tree.specs.Equal.{name_eq}
use Rattle.array_meaning.specs.Stores.{arrays_of, length_of}
use Rattle.array_meaning.specs.Names.{is_among, names_of}
use Rattle.array_meaning.specs.Pieces.{IsMember}
use Rattle.array_meaning.proofs.InsideLemmas.{names_in}
use Rattle.spread_laws.specs.Rows.{rows_name, rows_with, is_tallied, greatest, rows_declaration}
use Rattle.spread_laws.proofs.Named.{rows_self, rows_other}

-- ---- how many rows

pub member_left : {A : Type 0} (x : A) (xs ys : List A) → IsMember x xs → IsMember x (xs ++ ys)
member_left x [] ys h = absurd h
member_left x (y ∷ xs) ys (inl p) = inl p
member_left x (y ∷ xs) ys (inr q) = inr (member_left x xs ys q)

pub member_right : {A : Type 0} (x : A) (xs ys : List A) → IsMember x ys → IsMember x (xs ++ ys)
member_right x [] ys h = h
member_right x (y ∷ xs) ys h = inr (member_right x xs ys h)

pub up_to_greatest : (ns : List ℕ) (n : ℕ) → IsMember n ns → n ≤ greatest ns
up_to_greatest [] n h = absurd h
up_to_greatest (m ∷ ns) n (inl p) = subst (λ (k : ℕ). k ≤ max m (greatest ns)) p (le-max_left m (greatest ns))
up_to_greatest (m ∷ ns) n (inr q) =
    let low = up_to_greatest ns n q in
    let high = le-max_right m (greatest ns) in
    omega (arith, low, high)

pub tallied_by : (body : Sequence) (x : List ℕ) (n : ℕ) → IsMember n (rows_with x body) → is_tallied body x ≡ true
tallied_by body x n h = by_list (rows_with x body) refl h
  where
    by_list : (ns : List ℕ) → rows_with x body ≡ ns → IsMember n ns → is_tallied body x ≡ true
    by_list [] p h = absurd h
    by_list (m ∷ ns) p h = rw p refl

-- ---- which declarations

-- A declared name that passes a test of names is among the declarations that pass.
pub chosen_name : (p : List ℕ → Bool) (ds : List Declaration) (x : List ℕ) → p x ≡ true → is_among x (names_of ds) ≡ true
    → is_among x (names_of (filter (λ d. p d.name) ds)) ≡ true
chosen_name p [] x t h = absurd (false≢true h)
chosen_name p (d ∷ ds) x t h = ⊎_elim
    (λ l. let here : p d.name ≡ true = subst (λ z. p z ≡ true) (sym (same_text d.name x (sym l))) t in
    rw here (or_left (name_eq d.name x) (is_among x (names_of (filter (λ d. p d.name) ds))) l))
    (λ r. ⊎_elim
    (λ here. rw here (or_right (name_eq d.name x) (is_among x (names_of (filter (λ d. p d.name) ds))) (chosen_name p ds x t r)))
    (λ gone. rw gone (chosen_name p ds x t r))
    (cases_Bool (p d.name)))
    (or_cases (name_eq d.name x) (is_among x (names_of ds)) h)

pub chosen_length : (p : List ℕ → Bool) (ds : List Declaration) (x : List ℕ) → p x ≡ true
    → length_of (arrays_of (filter (λ d. p d.name) ds)) x ≡ length_of (arrays_of ds) x
chosen_length p [] x t = refl
chosen_length p (d ∷ ds) x t = by_tests (cases_Bool (name_eq d.name x)) (cases_Bool (p d.name)) (chosen_length p ds x t)
  where
    by_tests : (name_eq d.name x ≡ true) ⊎ (name_eq d.name x ≡ false) → (p d.name ≡ true) ⊎ (p d.name ≡ false)
        → length_of (arrays_of (filter (λ e. p e.name) ds)) x ≡ length_of (arrays_of ds) x
        → length_of (arrays_of (filter (λ e. p e.name) (d ∷ ds))) x ≡ length_of (arrays_of (d ∷ ds)) x
    by_tests (inl same) tested rest = let here : p d.name ≡ true = subst (λ z. p z ≡ true) (sym (same_text d.name x (sym same))) t in rw (here, same) refl
    by_tests (inr other) (inl here) rest = rw (here, other) rest
    by_tests (inr other) (inr gone) rest = rw (gone, other) rest

-- ---- the rows of the declarations

module _ (body : Sequence) where
  pub rows_named : (ds : List Declaration) (x : List ℕ) → is_among x (names_of ds) ≡ true → is_among (rows_name x) (names_in (arrays_of (map (rows_declaration body) ds))) ≡ true
  rows_named [] x h = absurd (false≢true h)
  rows_named (d ∷ ds) x h =
      let rest = is_among (rows_name x) (names_in (arrays_of (map (rows_declaration body) ds))) in
      ⊎_elim
      (λ l. or_left (name_eq (rows_name d.name) (rows_name x)) rest (rows_self d.name x l))
      (λ r. or_right (name_eq (rows_name d.name) (rows_name x)) rest (rows_named ds x r))
      (or_cases (name_eq d.name x) (is_among x (names_of ds)) h)

  pub rows_long : (ds : List Declaration) (x : List ℕ) → is_among x (names_of ds) ≡ true
      → length_of (arrays_of (map (rows_declaration body) ds)) (rows_name x) ≡ greatest (rows_with x body) * length_of (arrays_of ds) x
  rows_long [] x h = absurd (false≢true h)
  rows_long (d ∷ ds) x h = ⊎_elim
      (λ same.
      let cells : greatest (rows_with d.name body) * unsigned_abs d.length ≡ greatest (rows_with x body) * unsigned_abs d.length
      = ap (λ z. greatest (rows_with z body) * unsigned_abs d.length) (same_text d.name x (sym same)) in
      let rows = rows_self d.name x same in
      rw (same, rows) cells)
      (λ other.
      let rows = rows_other d.name x other in
      let rest : is_among x (names_of ds) ≡ true = ⊎_elim (λ l. absurd (false≢true (sym other ∙ l))) (λ r. r) (or_cases (name_eq d.name x) (is_among x (names_of ds)) h) in
      rw (other, rows) (rows_long ds x rest))
      (cases_Bool (name_eq d.name x))
