-- Copies of pages, and the view over a store.
use Rattle.std.proofs.Common.{inl, inr, ◌≡◌, ℕ, zero, suc, ◌+◌, ◌-◌, ◌*◌, ◌/◌, ◌%◌, ◌<◌, ◌≤◌, ◌≢◌, List, [], ◌∷◌, ◌++◌, length, set, get_or, map, Some, None, refl, sym, ap, ◌∙◌, subst, arith, length-set}
use Rattle.std.specs.Prelude.{◌⊎◌, IsSome, Option, option_map, slice_get, replicate}
use Rattle.std.proofs.Math.ListN.{get_or-map}
use Rattle.std.proofs.Math.Nat.{div-add-mod, mod-lt}
use Rattle.std.proofs.lemmas.Bool.{cases_eq, cases_lt, false≢true}
use Rattle.std.proofs.lemmas.List.{ext_get_or, get_or-set_same, get_or-set_other, get_or-replicate, get_or_past, length-map, length-replicate}
use Rattle.std.proofs.lemmas.List.FromFn.{get_or-map-range_with_len, length-map-range_with_len}
use Rattle.std.proofs.lemmas.Option.{slice_get-get_or}
use Rattle.array_eval.specs.Copies.{copy_at, free_in, AreSlots, changed_copy, seen_in, seen}
use Rattle.array_eval.specs.Traces.{Trace}

-- ---- slots

one_free : (slots : List ℕ) (number place : ℕ) → number < length slots → get_or slots number 0 ≡ 0 →
    suc (free_in (set slots number (suc place))) ≡ free_in slots
one_free [] number place h e = absurd (omega (arith, h))
one_free (zero ∷ slots) zero place h e = refl
one_free (suc k ∷ slots) zero place h e = absurd (omega (arith, e))
one_free (zero ∷ slots) (suc number) place h e = ap suc (one_free slots number place (omega (arith, h)) e)
one_free (suc k ∷ slots) (suc number) place h e = one_free slots number place (omega (arith, h)) e

all_free : (n : ℕ) → free_in (replicate n 0) ≡ n
all_free zero = refl
all_free (suc n) = ap suc (all_free n)

-- A list of equal elements reads the same past its end if the default is that element.
pub get_alike : {A : Type 0} (n i : ℕ) (x : A) → get_or (replicate n x) i x ≡ x
get_alike n i x = elim (cases_lt i n) [
  | inl inside ↦ get_or-replicate n i x x inside
  | inr behind ↦ (let long = length-replicate n x in get_or_past (replicate n x) i x (omega (arith, long, behind)))
]

-- All slots are 0: there are no copies.
pub slots_none : (n : ℕ) → AreSlots (replicate n 0) 0
slots_none n =
    let slots : List ℕ = replicate n 0 in
    let long : length slots ≡ n = length-replicate n (zero) in
    let free = all_free n in
    record {
      there = λ number. let zero_there = get_alike {A = ℕ} n number 0 in omega (arith, zero_there);
      apart = λ a b same some. let zero_there = get_alike {A = ℕ} n a 0 in absurd (omega (arith, zero_there, some));
      free = omega (arith, long, free);
    }

pub copies_none : {A : Type 0} (n : ℕ) → map (copy_at {A = A} []) (replicate n 0) ≡ replicate n None
copies_none zero = refl
copies_none (suc n) = ap (λ copies. None ∷ copies) (copies_none n)

-- There is room for one more copy.
pub room_left : (slots : List ℕ) (n number : ℕ) → AreSlots slots n → number < length slots → get_or slots number 0 ≡ 0 → n < length slots
room_left slots n number right h e =
    let one = one_free slots number 0 h e in
    let all = right.free in
    omega (arith, one, all)

slots_more : (slots : List ℕ) (n number : ℕ) → AreSlots slots n → number < length slots → get_or slots number 0 ≡ 0 →
    AreSlots (set slots number (suc n)) (suc n)
slots_more slots n number right h e =
    let long = length-set slots number (suc n) in
    let one = one_free slots number n h e in
    let all = right.free in
    let here : get_or (set slots number (suc n)) number 0 ≡ suc n = get_or-set_same slots number (suc n) 0 h in
    let old = λ (i : ℕ) (other : i ≢ number). get_or-set_other slots number i (suc n) 0 other in
    record {
      there = λ i. elim (cases_eq i number) [
        | inl same ↦ (let at : get_or (set slots number (suc n)) i 0 ≡ suc n = ap (λ k. get_or (set slots number (suc n)) k 0) same ∙ here in omega (arith, at))
        | inr other ↦ (let at = old i other in let le = right.there i in omega (arith, at, le))
      ];
      apart = λ a b same some. elim (cases_eq a number) [
        | inl a_here ↦ elim (cases_eq b number) [
          | inl b_here ↦ a_here ∙ sym b_here
          | inr b_other ↦ (let at : get_or (set slots number (suc n)) a 0 ≡ suc n = ap (λ k. get_or (set slots number (suc n)) k 0) a_here ∙ here in
              let bt = old b b_other in let le = right.there b in absurd (omega (arith, at, bt, le, same)))
        ]
        | inr a_other ↦ elim (cases_eq b number) [
          | inl b_here ↦ (let bt : get_or (set slots number (suc n)) b 0 ≡ suc n = ap (λ k. get_or (set slots number (suc n)) k 0) b_here ∙ here in
              let at = old a a_other in let le = right.there a in absurd (omega (arith, at, bt, le, same)))
          | inr b_other ↦ (let at = old a a_other in let bt = old b b_other in
              right.apart a b (omega (arith, at, bt, same)) (omega (arith, at, some)))
        ]
      ];
      free = omega (arith, long, one, all);
    }

pub slots_add : (slots : List ℕ) (n m number : ℕ) → AreSlots slots n → number < length slots → get_or slots number 0 ≡ 0 → m ≡ suc n →
    AreSlots (set slots number m) m
slots_add slots n m number right h e more = subst (λ k. AreSlots (set slots number k) k) (sym more) (slots_more slots n number right h e)

-- ---- copies

-- The copy that a page's slot refers to.
pub copy_of : {A : Type 0} (pages : List A) (slots : List ℕ) (number : ℕ) → get_or (map (copy_at pages) slots) number None ≡ copy_at pages (get_or slots number 0)
copy_of pages slots number = get_or-map (copy_at pages) slots number 0

get_before : {A : Type 0} (xs : List A) (x : A) (i : ℕ) → i < length xs → slice_get (xs ++ x ∷ []) i ≡ slice_get xs i
get_before [] x i h = absurd (omega (arith, h))
get_before (y ∷ xs) x zero h = refl
get_before (y ∷ xs) x (suc i) h = get_before xs x i (omega (arith, h))

get_last : {A : Type 0} (xs : List A) (x : A) → slice_get (xs ++ x ∷ []) (length xs) ≡ Some x
get_last [] x = refl
get_last (y ∷ xs) x = get_last xs x

get_set_here : {A : Type 0} (xs : List A) (x : A) (i : ℕ) → i < length xs → slice_get (set xs i x) i ≡ Some x
get_set_here [] x i h = absurd (omega (arith, h))
get_set_here (y ∷ xs) x zero h = refl
get_set_here (y ∷ xs) x (suc i) h = get_set_here xs x i (omega (arith, h))

get_set_apart : {A : Type 0} (xs : List A) (x : A) (i k : ℕ) → k ≢ i → slice_get (set xs i x) k ≡ slice_get xs k
get_set_apart [] x i k other = refl
get_set_apart (y ∷ xs) x zero zero other = absurd (other refl)
get_set_apart (y ∷ xs) x zero (suc k) other = refl
get_set_apart (y ∷ xs) x (suc i) zero other = refl
get_set_apart (y ∷ xs) x (suc i) (suc k) other = get_set_apart xs x i k (λ e. other (ap suc e))

copy_before : {A : Type 0} (pages : List A) (page : A) (slot : ℕ) → slot ≤ length pages → copy_at (pages ++ page ∷ []) slot ≡ copy_at pages slot
copy_before pages page zero h = refl
copy_before pages page (suc place) h = get_before pages page place (omega (arith, h))

copies_more : {A : Type 0} (pages : List A) (page : A) (slots : List ℕ) (number : ℕ) → AreSlots slots (length pages) → number < length slots →
    map (copy_at (pages ++ page ∷ [])) (set slots number (suc (length pages))) ≡ set (map (copy_at pages) slots) number (Some page)
copies_more pages page slots number right h =
    let m = suc (length pages) in
    let before = length-map slots (copy_at pages) in
    let after = length-map (set slots number m) (copy_at (pages ++ page ∷ [])) in
    let kept = length-set slots number m in
    let kept_too = length-set (map (copy_at pages) slots) number (Some page) in
    ext_get_or None (map (copy_at (pages ++ page ∷ [])) (set slots number m)) (set (map (copy_at pages) slots) number (Some page))
    (omega (arith, before, after, kept, kept_too))
    (λ i in_i. copy_of (pages ++ page ∷ []) (set slots number m) i ∙ elim (cases_eq i number) [
      | inl same ↦ ap (λ k. copy_at (pages ++ page ∷ []) (get_or (set slots number m) k 0)) same
          ∙ ap (copy_at (pages ++ page ∷ [])) (get_or-set_same slots number m 0 h)
          ∙ get_last pages page
          ∙ sym (ap (λ k. get_or (set (map (copy_at pages) slots) number (Some page)) k None) same
          ∙ get_or-set_same (map (copy_at pages) slots) number (Some page) None (omega (arith, before, h)))
      | inr other ↦ ap (copy_at (pages ++ page ∷ [])) (get_or-set_other slots number i m 0 other)
          ∙ copy_before pages page (get_or slots i 0) (right.there i)
          ∙ sym (get_or-set_other (map (copy_at pages) slots) number i (Some page) None other ∙ copy_of pages slots i)
    ])

pub copies_add : {A : Type 0} (pages : List A) (page : A) (slots : List ℕ) (number m : ℕ) → AreSlots slots (length pages) → number < length slots → m ≡ suc (length pages) →
    map (copy_at (pages ++ page ∷ [])) (set slots number m) ≡ set (map (copy_at pages) slots) number (Some page)
copies_add pages page slots number m right h more =
    ap (λ k. map (copy_at (pages ++ page ∷ [])) (set slots number k)) more ∙ copies_more pages page slots number right h

copy_apart : {A : Type 0} (pages : List A) (page : A) (place slot : ℕ) → slot ≢ suc place → copy_at (set pages place page) slot ≡ copy_at pages slot
copy_apart pages page place zero other = refl
copy_apart pages page place (suc k) other = get_set_apart pages page place k (λ e. other (ap suc e))

-- A copy is replaced.
pub copies_set : {A : Type 0} (pages : List A) (page : A) (slots : List ℕ) (number place : ℕ) → AreSlots slots (length pages) → number < length slots →
    get_or slots number 0 ≡ suc place →
    map (copy_at (set pages place page)) slots ≡ set (map (copy_at pages) slots) number (Some page)
copies_set pages page slots number place right h at =
    let before = length-map slots (copy_at pages) in
    let after = length-map slots (copy_at (set pages place page)) in
    let kept = length-set (map (copy_at pages) slots) number (Some page) in
    let le = right.there number in
    ext_get_or None (map (copy_at (set pages place page)) slots) (set (map (copy_at pages) slots) number (Some page))
    (omega (arith, before, after, kept))
    (λ i in_i. copy_of (set pages place page) slots i ∙ elim (cases_eq i number) [
      | inl same ↦ ap (λ k. copy_at (set pages place page) (get_or slots k 0)) same
          ∙ ap (copy_at (set pages place page)) at
          ∙ get_set_here pages page place (omega (arith, at, le))
          ∙ sym (ap (λ k. get_or (set (map (copy_at pages) slots) number (Some page)) k None) same
          ∙ get_or-set_same (map (copy_at pages) slots) number (Some page) None (omega (arith, before, h)))
      | inr other ↦ copy_apart pages page place (get_or slots i 0) (λ e. other (right.apart i number (e ∙ sym at) (omega (arith, e))))
          ∙ sym (get_or-set_other (map (copy_at pages) slots) number i (Some page) None other ∙ copy_of pages slots i)
    ])

-- The slot's copy exists.
pub copy_there : {A : Type 0} (pages : List A) (slots : List ℕ) (number place : ℕ) (d : A) → AreSlots slots (length pages) → get_or slots number 0 ≡ suc place →
    get_or (map (copy_at pages) slots) number None ≡ Some (get_or pages place d)
copy_there pages slots number place d right at =
    let le = right.there number in
    copy_of pages slots number ∙ ap (copy_at pages) at ∙ slice_get-get_or pages place d (omega (arith, at, le))

slot_free : {A : Type 0} (pages : List A) (slot : ℕ) → slot ≤ length pages → copy_at pages slot ≡ None → slot ≡ 0
slot_free pages zero h e = refl
slot_free [] (suc place) h e = absurd (omega (arith, h))
slot_free (page ∷ pages) (suc place) h e = absurd (none_some (sym e ∙ slice_get-get_or (page ∷ pages) place page (omega (arith, h))))
  where
    none_some : {B : Type 0} {x : B} → None ≡ Some x → ⊥
    none_some e = cc

-- A page without a copy has a free slot.
pub free_slot : {A : Type 0} (pages : List A) (slots : List ℕ) (number : ℕ) → AreSlots slots (length pages) → get_or (map (copy_at pages) slots) number None ≡ None →
    get_or slots number 0 ≡ 0
free_slot pages slots number right none = slot_free pages (get_or slots number 0) (right.there number) (sym (copy_of pages slots number) ∙ none)

-- ---- the view over a store

-- The value in the view at a cell.
pub seen_at : {A : Type 0} (own : Trace → ℕ → A) (below : ℕ → A) (copies : List (Option Trace)) (count i : ℕ) (d : A) → i < count →
    get_or (seen own below copies count) i d ≡ seen_in (λ page. own page (i % 64)) (below i) (get_or copies (i / 64) None)
seen_at own below copies count i d h =
    let place : 0 + i ≡ i = omega arith in
    get_or-map-range_with_len (λ cell. seen_in (λ page. own page (cell % 64)) (below cell) (get_or copies (cell / 64) None)) 0 count i i d h place

pub length_seen_over : {A : Type 0} (own : Trace → ℕ → A) (below : ℕ → A) (copies : List (Option Trace)) (count : ℕ) → length (seen own below copies count) ≡ count
length_seen_over own below copies count =
    length-map-range_with_len (λ cell. seen_in (λ page. own page (cell % 64)) (below cell) (get_or copies (cell / 64) None)) 0 count

-- A view is determined cell by cell.
pub seen_is : {A : Type 0} (own : Trace → ℕ → A) (below : ℕ → A) (copies : List (Option Trace)) (count : ℕ) (d : A) (all : List A) → length all ≡ count →
    ((i : ℕ) → i < count → seen_in (λ page. own page (i % 64)) (below i) (get_or copies (i / 64) None) ≡ get_or all i d) → seen own below copies count ≡ all
seen_is own below copies count d all long each =
    let many = length_seen_over own below copies count in
    ext_get_or d (seen own below copies count) all (many ∙ sym long)
    (λ i h. let inside : i < count = omega (arith, h, many) in seen_at own below copies count i d inside ∙ each i inside)

-- If no page has a copy, the view is the store below.
pub seen_below : {A : Type 0} (own : Trace → ℕ → A) (below : ℕ → A) (pages count : ℕ) (d : A) (all : List A) → length all ≡ count →
    ((i : ℕ) → i < count → below i ≡ get_or all i d) → seen own below (replicate pages None) count ≡ all
seen_below own below pages count d all long each =
    seen_is own below (replicate pages None) count d all long
    (λ i h. ap (seen_in (λ page. own page (i % 64)) (below i)) (get_alike pages (i / 64) None) ∙ each i h)

-- A cell of a page with a copy has the copy's value.
pub seen_copy : {A : Type 0} (own : Trace → ℕ → A) (below : ℕ → A) (copies : List (Option Trace)) (count number place : ℕ) (page : Trace) (d : A) →
    get_or copies number None ≡ Some page → place < 64 → 64 * number + place < count →
    get_or (seen own below copies count) (64 * number + place) d ≡ own page place
seen_copy own below copies count number place page d at inside h =
    let i = 64 * number + place in
    let front : (64 * number + place) / 64 ≡ number = omega (arith, inside) in
    let rest : (64 * number + place) % 64 ≡ place = omega (arith, inside) in
    seen_at own below copies count i d h
    ∙ ap (λ n. seen_in (λ page. own page (i % 64)) (below i) (get_or copies n None)) front
    ∙ ap (seen_in (λ page. own page (i % 64)) (below i)) at
    ∙ ap (own page) rest

-- A cell of a page without a copy has the value below.
pub seen_bare : {A : Type 0} (own : Trace → ℕ → A) (below : ℕ → A) (copies : List (Option Trace)) (count number place : ℕ) (d : A) →
    get_or copies number None ≡ None → place < 64 → 64 * number + place < count →
    get_or (seen own below copies count) (64 * number + place) d ≡ below (64 * number + place)
seen_bare own below copies count number place d at inside h =
    let i = 64 * number + place in
    let front : (64 * number + place) / 64 ≡ number = omega (arith, inside) in
    seen_at own below copies count i d h
    ∙ ap (λ n. seen_in (λ page. own page (i % 64)) (below i) (get_or copies n None)) front
    ∙ ap (seen_in (λ page. own page (i % 64)) (below i)) at

-- A page gets a copy that has the values below: the view stays.
pub seen_added : {A : Type 0} (own : Trace → ℕ → A) (below : ℕ → A) (copies : List (Option Trace)) (count number : ℕ) (page : Trace) (d : A) →
    number < length copies → get_or copies number None ≡ None → ((place : ℕ) → place < 64 → 64 * number + place < count → own page place ≡ below (64 * number + place)) →
    seen own below (set copies number (Some page)) count ≡ seen own below copies count
seen_added own below copies count number page d inside none same =
    seen_is own below (set copies number (Some page)) count d (seen own below copies count) (length_seen_over own below copies count)
    (λ i h. sym (seen_at own below copies count i d h ∙ at i h (cases_eq (i / 64) number)))
  where
    at : (i : ℕ) → i < count → (i / 64 ≡ number) ⊎ (i / 64 ≡ number → ⊥) →
        seen_in (λ own_page. own own_page (i % 64)) (below i) (get_or copies (i / 64) None)
        ≡ seen_in (λ own_page. own own_page (i % 64)) (below i) (get_or (set copies number (Some page)) (i / 64) None)
    at i h (inl here) =
        let rest : i % 64 < 64 = mod-lt i (omega arith) in
        let whole : 64 * number + i % 64 ≡ i = ap (λ n. 64 * n + i % 64) (sym here) ∙ div-add-mod i 64 in
        ap (λ n. seen_in (λ own_page. own own_page (i % 64)) (below i) (get_or copies n None)) here
        ∙ ap (seen_in (λ own_page. own own_page (i % 64)) (below i)) none
        ∙ sym (ap (λ n. seen_in (λ own_page. own own_page (i % 64)) (below i) (get_or (set copies number (Some page)) n None)) here
        ∙ ap (seen_in (λ own_page. own own_page (i % 64)) (below i)) (get_or-set_same copies number (Some page) None inside)
        ∙ same (i % 64) rest (omega (arith, whole, h))
        ∙ ap below whole)
    at i h (inr other) =
        ap (seen_in (λ own_page. own own_page (i % 64)) (below i)) (sym (get_or-set_other copies number (i / 64) (Some page) None other))

-- A write to a cell of a copy writes the cell of the view.
pub seen_written : {A : Type 0} (own : Trace → ℕ → A) (below : ℕ → A) (copies : List (Option Trace)) (count cell : ℕ) (old new : Trace) (v d : A) →
    cell / 64 < length copies → cell < count → get_or copies (cell / 64) None ≡ Some old → own new (cell % 64) ≡ v →
    ((place : ℕ) → place ≢ cell % 64 → own new place ≡ own old place) →
    seen own below (set copies (cell / 64) (Some new)) count ≡ set (seen own below copies count) cell v
seen_written own below copies count cell old new v d inside h was here kept =
    let number = cell / 64 in
    let many = length_seen_over own below copies count in
    seen_is own below (set copies number (Some new)) count d (set (seen own below copies count) cell v)
    (length-set (seen own below copies count) cell v ∙ many)
    (λ i in_i. at i in_i (cases_eq i cell) (cases_eq (i / 64) (cell / 64)))
  where
    at : (i : ℕ) → i < count → (i ≡ cell) ⊎ (i ≡ cell → ⊥) → (i / 64 ≡ cell / 64) ⊎ (i / 64 ≡ cell / 64 → ⊥) →
        seen_in (λ page. own page (i % 64)) (below i) (get_or (set copies (cell / 64) (Some new)) (i / 64) None) ≡ get_or (set (seen own below copies count) cell v) i d
    at i in_i (inl same) page =
        let many = length_seen_over own below copies count in
        ap (λ n. seen_in (λ page. own page (n % 64)) (below n) (get_or (set copies (cell / 64) (Some new)) (n / 64) None)) same
        ∙ ap (seen_in (λ page. own page (cell % 64)) (below cell)) (get_or-set_same copies (cell / 64) (Some new) None inside)
        ∙ here
        ∙ sym (ap (λ n. get_or (set (seen own below copies count) cell v) n d) same ∙ get_or-set_same (seen own below copies count) cell v d (omega (arith, many, h)))
    at i in_i (inr other) (inl page) =
        let apart : i % 64 ≢ cell % 64 = λ e. other (sym (div-add-mod i 64) ∙ ap (λ n. 64 * n + i % 64) page ∙ ap (λ n. 64 * (cell / 64) + n) e ∙ div-add-mod cell 64) in
        ap (λ n. seen_in (λ page. own page (i % 64)) (below i) (get_or (set copies (cell / 64) (Some new)) n None)) page
        ∙ ap (seen_in (λ page. own page (i % 64)) (below i)) (get_or-set_same copies (cell / 64) (Some new) None inside)
        ∙ kept (i % 64) apart
        ∙ sym (get_or-set_other (seen own below copies count) cell i v d other
        ∙ seen_at own below copies count i d in_i
        ∙ ap (λ n. seen_in (λ page. own page (i % 64)) (below i) (get_or copies n None)) page
        ∙ ap (seen_in (λ page. own page (i % 64)) (below i)) was)
    at i in_i (inr other) (inr apart) =
        ap (seen_in (λ page. own page (i % 64)) (below i)) (get_or-set_other copies (cell / 64) (i / 64) (Some new) None apart)
        ∙ sym (get_or-set_other (seen own below copies count) cell i v d other ∙ seen_at own below copies count i d in_i)

-- ---- a copy that is written

none_is_none : {A : Type 0} (pages : List A) (slots : List ℕ) (number : ℕ) → get_or slots number 0 ≡ 0 → IsSome (get_or (map (copy_at pages) slots) number None) → ⊥
none_is_none pages slots number at some = false≢true (rw (copy_of pages slots number, at) at some)

-- A page with a copy exists.
pub is_inside : {A : Type 0} (pages : List A) (slots : List ℕ) (number : ℕ) → IsSome (get_or (map (copy_at pages) slots) number None) → number < length slots
is_inside pages slots number some = elim (cases_lt number (length slots)) [
  | inl inside ↦ inside
  | inr behind ↦ absurd (none_is_none pages slots number (get_or_past slots number 0 behind) some)
]

-- A slot that is read is the slot at its index.
pub at_zero : (slots : List ℕ) (number slot : ℕ) → number < length slots → slot ≡ get_or slots number slot → slot ≡ get_or slots number 0
at_zero [] number slot h e = absurd (omega (arith, h))
at_zero (s ∷ slots) zero slot h e = e
at_zero (s ∷ slots) (suc number) slot h e = at_zero slots number slot (omega (arith, h)) e

-- The copy that is read at a page's slot is the page's copy.
pub copy_was : (pages : List Trace) (slots : List ℕ) (number slot : ℕ) (old : Trace) → AreSlots slots (length pages) → slot ≡ get_or slots number 0 →
    IsSome (get_or (map (copy_at pages) slots) number None) → old ≡ get_or pages (slot - 1) old →
    get_or (map (copy_at pages) slots) number None ≡ Some old
copy_was pages slots number zero old right at some is = absurd (none_is_none pages slots number (sym at) some)
copy_was pages slots number (suc place) old right at some is =
    let back : suc place - 1 ≡ place = omega arith in
    copy_there pages slots number place old right (sym at) ∙ ap Some (sym (is ∙ ap (λ n. get_or pages n old) back))

pub copy_written : (pages : List Trace) (slots : List ℕ) (number slot : ℕ) (change : Trace → Trace) (old new : Trace) → AreSlots slots (length pages) →
    number < length slots → slot ≡ get_or slots number 0 → IsSome (get_or (map (copy_at pages) slots) number None) →
    old ≡ get_or pages (slot - 1) old → new ≡ change old →
    map (copy_at (set pages (slot - 1) new)) slots ≡ changed_copy change number (map (copy_at pages) slots)
copy_written pages slots number zero change old new right h at some was is = absurd (none_is_none pages slots number (sym at) some)
copy_written pages slots number (suc place) change old new right h at some was is =
    let back : suc place - 1 ≡ place = omega arith in
    ap (λ n. map (copy_at (set pages n new)) slots) back
    ∙ copies_set pages new slots number place right h (sym at)
    ∙ ap (λ page. set (map (copy_at pages) slots) number (Some page)) is
    ∙ sym (ap (λ page. set (map (copy_at pages) slots) number (option_map change page)) (copy_was pages slots number (suc place) old right at some was))
