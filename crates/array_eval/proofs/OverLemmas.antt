-- The view over a store: it is written, laid out on pages and marked.
use Rattle.std.proofs.Common.{inl, inr, ◌≡◌, ℕ, zero, suc, ◌+◌, ◌-◌, ◌*◌, ◌/◌, ◌%◌, ◌<◌, ◌≤◌, Bool, true, false, not, List, [], ◌∷◌, length, set, take, drop, get_or, Some, None, ℤ, pos, refl, sym, ap, ◌∙◌, arith}
use mir.Val.{bool_byte}
use Rattle.std.specs.Prelude.{IfSome, IsSome, Option, option_map, replicate, min}
use Rattle.std.specs.Option.{is_some}
use Rattle.std.proofs.Math.Nat.{div-add-mod, mod-lt}
use Rattle.std.proofs.lemmas.Bool.{cases_lt}
use Rattle.std.proofs.lemmas.Grind.{div_ceil_times}
use Rattle.std.proofs.lemmas.List.{ext_get_or, get_or-set_same, get_or-set_other, get_or-take, get_or-drop, get_or_past, length-replicate, length-take, length-drop}
use Rattle.array_meaning.specs.Stores.{Store, at_cell}
use Rattle.array_eval.specs.Copies.{IsWhole, mark_at, changed_copy, seen_in, seen, over_store}
use Rattle.array_eval.specs.Pages.{IsPageOf, page_at, pages_for}
use Rattle.array_eval.specs.Traces.{Trace, fresh, noted, marks_in}
use Rattle.array_eval.proofs.CopyLemmas.{get_alike, length_seen_over, seen_added, seen_at, seen_bare, seen_below, seen_copy, seen_is, seen_written}

-- The values of a copy, and its marks.
abbrev pub value_in : Trace → ℕ → ℤ
value_in page = at_cell page.cells

abbrev pub mark_in : Trace → ℕ → Bool
mark_in page = mark_at page.marks

abbrev pub cells_over : Store → List (Option Trace) → List ℤ
cells_over store copies = seen value_in (at_cell store) copies (length store)

abbrev pub marks_over : Store → List (Option Trace) → List Bool
marks_over store copies = seen mark_in (λ cell. false) copies (length store)

abbrev trace : List ℤ → List Bool → Trace
trace cells marks = record { cells = cells; marks = marks }

same_trace : {a b : List ℤ} {c d : List Bool} → a ≡ b → c ≡ d → trace a c ≡ trace b d
same_trace {a} {b} {c} {d} e f = ap (λ cells. trace cells c) e ∙ ap (trace b) f

-- The page of a cell exists.
pub page_inside : (count cell pages : ℕ) → pages ≡ pages_for count → cell < count → cell / 64 < pages
page_inside count cell pages many h =
    let few = (div_ceil_times count 64 (omega arith)).0 in
    let whole = div-add-mod cell 64 in
    omega (arith, many, few, whole, h)

-- No page has a copy.
pub over_fresh : (store : Store) (pages : ℕ) → over_store store (replicate pages None) ≡ fresh store
over_fresh store pages = same_trace
    (seen_below value_in (at_cell store) pages (length store) (pos 0) store refl (λ i h. refl))
    (seen_below mark_in (λ cell. false) pages (length store) false (replicate (length store) false) (length-replicate (length store) false)
    (λ i h. sym (get_alike (length store) i false)))

-- A page is copied.
pub over_copied : (store : Store) (copies : List (Option Trace)) (number : ℕ) (page : List ℤ) → number < length copies → get_or copies number None ≡ None →
    IsPageOf store number page → over_store store (set copies number (Some (fresh page))) ≡ over_store store copies
over_copied store copies number page inside none same = same_trace
    (seen_added value_in (at_cell store) copies (length store) number (fresh page) (pos 0) inside none same)
    (seen_added mark_in (λ cell. false) copies (length store) number (fresh page) false inside none (λ place in_page h. get_alike (length page) place false))

-- A missing copy stays missing under a map.
pub none_there : {A B : Type 0} (f : A → B) (o : Option A) → is_some o ≡ false → option_map f o ≡ None
none_there f None e = refl
none_there f (Some x) e = cc

-- A cell is written in the copy of its page.
pub over_written : (store : Store) (copies : List (Option Trace)) (cell : ℕ) (v : ℤ) (o : Option Trace) → get_or copies (cell / 64) None ≡ o → IsSome o → IfSome o IsWhole →
    cell / 64 < length copies → cell < length store →
    over_store store (changed_copy (noted (cell % 64) v) (cell / 64) copies) ≡ noted cell v (over_store store copies)
over_written store copies cell v None at some whole inside h = absurd (none_some some)
  where
    none_some : IsSome {T = Trace} None → ⊥
    none_some e = cc
over_written store copies cell v (Some old) at some whole inside h =
    let place : cell % 64 < 64 = mod-lt cell (omega arith) in
    let long = whole.cells in
    let long_too = whole.marks in
    let new : Trace = noted (cell % 64) v old in
    ap (λ o. over_store store (set copies (cell / 64) (option_map (noted (cell % 64) v) o))) at
    ∙ same_trace
    (seen_written value_in (at_cell store) copies (length store) cell old new v (pos 0) inside h at
    (get_or-set_same old.cells (cell % 64) v (pos 0) (omega (arith, place, long))) (λ i other. get_or-set_other old.cells (cell % 64) i v (pos 0) other))
    (seen_written mark_in (λ cell. false) copies (length store) cell old new true false inside h at
    (get_or-set_same old.marks (cell % 64) true false (omega (arith, place, long_too))) (λ i other. get_or-set_other old.marks (cell % 64) i true false other))

-- The copy's mark is the mark of the cell in the view.
pub mark_over : (store : Store) (copies : List (Option Trace)) (cell : ℕ) (o : Option Trace) (b : Bool) → get_or copies (cell / 64) None ≡ o →
    option_map (λ page. mark_at page.marks (cell % 64)) o ≡ Some b → cell < length store → get_or (marks_over store copies) cell false ≡ b
mark_over store copies cell None b at is h = cc
mark_over store copies cell (Some old) b at is h =
    seen_at mark_in (λ cell. false) copies (length store) cell false h
    ∙ ap (λ o. seen_in (λ page. mark_in page (cell % 64)) false o) at ∙ (cc)

-- ---- how many are marked

pub none_marked_in : (n : ℕ) → marks_in (replicate n false) ≡ 0
none_marked_in zero = refl
none_marked_in (suc n) = none_marked_in n

-- One more mark, unless the cell was marked.
pub marks_set : (marks : List Bool) (cell : ℕ) (b : Bool) → cell < length marks → get_or marks cell false ≡ b → marks_in (set marks cell true) ≡ marks_in marks + bool_byte (not b)
marks_set [] cell b h e = absurd (omega (arith, h))
marks_set (true ∷ marks) zero true h e = omega arith
marks_set (false ∷ marks) zero false h e = omega arith
marks_set (true ∷ marks) zero false h e = absurd (true_false e)
  where
    true_false : true ≡ false → ⊥
    true_false e = cc
marks_set (false ∷ marks) zero true h e = absurd (false_true e)
  where
    false_true : false ≡ true → ⊥
    false_true e = cc
marks_set (true ∷ marks) (suc cell) b h e = let ih = marks_set marks cell b (omega (arith, h)) e in omega (arith, ih)
marks_set (false ∷ marks) (suc cell) b h e = marks_set marks cell b (omega (arith, h)) e

-- ---- laying out

-- A page of the view, cell by cell.
page_is : (cells page : List ℤ) (number : ℕ) → length page ≡ min (length cells - 64 * number) 64 →
    ((i : ℕ) → i < length page → get_or page i (pos 0) ≡ get_or cells (64 * number + i) (pos 0)) → page ≡ page_at number cells
page_is cells page number long each =
    let dropped = length-drop (64 * number) cells in
    let taken = length-take 64 (drop (64 * number) cells) in
    ext_get_or (pos 0) page (page_at number cells) (omega (arith, long, dropped, taken))
    (λ i h. each i h ∙ sym (get_or-take 64 (drop (64 * number) cells) i (pos 0) (omega (arith, h, long)) ∙ get_or-drop (64 * number) cells i (pos 0)))

-- The page of the view with a copy is the first cells of the copy.
pub page_copied : (store : Store) (copies : List (Option Trace)) (number few : ℕ) (page : Trace) → get_or copies number None ≡ Some page → length page.cells ≡ 64 →
    few ≡ min (length store - 64 * number) 64 → take few page.cells ≡ page_at number (cells_over store copies)
page_copied store copies number few page at whole is =
    let count = length_seen_over value_in (at_cell store) copies (length store) in
    let taken = length-take few page.cells in
    page_is (cells_over store copies) (take few page.cells) number (omega (arith, count, taken, whole, is))
    (λ i h. get_or-take few page.cells i (pos 0) (omega (arith, h, taken))
    ∙ sym (seen_copy value_in (at_cell store) copies (length store) number i page (pos 0) at (omega (arith, h, taken, is)) (omega (arith, h, taken, is))))

-- The page of the view without a copy is the store's page.
pub page_bare : (store : Store) (copies : List (Option Trace)) (number : ℕ) → get_or copies number None ≡ None → page_at number store ≡ page_at number (cells_over store copies)
page_bare store copies number at =
    let count = length_seen_over value_in (at_cell store) copies (length store) in
    let dropped = length-drop (64 * number) store in
    let taken = length-take 64 (drop (64 * number) store) in
    page_is (cells_over store copies) (page_at number store) number (omega (arith, count, dropped, taken))
    (λ i h. get_or-take 64 (drop (64 * number) store) i (pos 0) (omega (arith, h, taken)) ∙ get_or-drop (64 * number) store i (pos 0)
    ∙ sym (seen_bare value_in (at_cell store) copies (length store) number i (pos 0) at (omega (arith, h, taken)) (omega (arith, h, taken, dropped))))

-- The view over a store stays if the store takes the view's cells.
pub over_taken : (store next : Store) (copies : List (Option Trace)) → next ≡ cells_over store copies → over_store next copies ≡ over_store store copies
over_taken store next copies is =
    let count = length_seen_over value_in (at_cell store) copies (length store) in
    let long : length next ≡ length store = ap length is ∙ count in
    same_trace
    (ap (λ n. seen value_in (at_cell next) copies n) long
    ∙ seen_is value_in (at_cell next) copies (length store) (pos 0) (cells_over store copies) count
    (λ i h. each i h (get_or copies (i / 64) None) refl))
    (ap (λ n. seen mark_in (λ cell. false) copies n) long)
  where
    each : (i : ℕ) → i < length store → (o : Option Trace) → get_or copies (i / 64) None ≡ o →
        seen_in (λ page. value_in page (i % 64)) (at_cell next i) (get_or copies (i / 64) None) ≡ get_or (cells_over store copies) i (pos 0)
    each i h None at =
        ap (seen_in (λ page. value_in page (i % 64)) (at_cell next i)) at ∙ ap (λ cells. get_or cells i (pos 0)) is
    each i h (Some page) at =
        ap (seen_in (λ page. value_in page (i % 64)) (at_cell next i)) at
        ∙ sym (seen_at value_in (at_cell store) copies (length store) i (pos 0) h ∙ ap (seen_in (λ page. value_in page (i % 64)) (at_cell store i)) at)

-- The view has as many cells as the store.
pub length_over : (store : Store) (copies : List (Option Trace)) → length (cells_over store copies) ≡ length store
length_over store copies = length_seen_over value_in (at_cell store) copies (length store)

pub length_marks_over : (store : Store) (copies : List (Option Trace)) → length (marks_over store copies) ≡ length store
length_marks_over store copies = length_seen_over mark_in (λ cell. false) copies (length store)

-- ---- laying what is marked

-- A cell of a page with a copy.
pub cell_over : (store : Store) (copies : List (Option Trace)) (number cell : ℕ) (page : Trace) → get_or copies number None ≡ Some page →
    64 * number ≤ cell → cell < 64 * number + 64 → cell < length store → get_or (cells_over store copies) cell (pos 0) ≡ at_cell page.cells (cell - 64 * number)
cell_over store copies number cell page at low high inside =
    let place : 64 * number + (cell - 64 * number) ≡ cell = omega (arith, low) in
    ap (λ i. get_or (cells_over store copies) i (pos 0)) (sym place)
    ∙ seen_copy value_in (at_cell store) copies (length store) number (cell - 64 * number) page (pos 0) at (omega (arith, low, high)) (omega (arith, place, inside))

pub mark_of_copy : (store : Store) (copies : List (Option Trace)) (number cell : ℕ) (page : Trace) → get_or copies number None ≡ Some page →
    64 * number ≤ cell → cell < 64 * number + 64 → cell < length store → get_or (marks_over store copies) cell false ≡ mark_at page.marks (cell - 64 * number)
mark_of_copy store copies number cell page at low high inside =
    let place : 64 * number + (cell - 64 * number) ≡ cell = omega (arith, low) in
    ap (λ i. get_or (marks_over store copies) i false) (sym place)
    ∙ seen_copy mark_in (λ cell. false) copies (length store) number (cell - 64 * number) page false at (omega (arith, low, high)) (omega (arith, place, inside))

-- A page without a copy has no mark.
pub unmarked_over : (store : Store) (copies : List (Option Trace)) (number place : ℕ) → get_or copies number None ≡ None → place < 64 →
    get_or (marks_over store copies) (64 * number + place) false ≡ false
unmarked_over store copies number place at h = elim (cases_lt (64 * number + place) (length store)) [
  | inl inside ↦ seen_bare mark_in (λ cell. false) copies (length store) number place false at h inside
  | inr behind ↦ (let long = length_marks_over store copies in get_or_past (marks_over store copies) (64 * number + place) false (omega (arith, long, behind)))
]
