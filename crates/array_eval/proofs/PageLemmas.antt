-- Cells on pages.
use Rattle.std.proofs.Common.{inl, inr, ◌≡◌, ℕ, zero, suc, ◌+◌, ◌-◌, ◌*◌, ◌/◌, ◌%◌, ◌<◌, ◌≤◌, ◌≢◌, Bool, true, false, List, [], ◌∷◌, ◌++◌, length, set, take, drop, get_or, ℤ, pos, refl, sym, ap, ◌∙◌, arith, length-set}
use Rattle.std.specs.Ordering.{int_eq}
use Rattle.std.specs.Prelude.{◌&&◌, All, replicate, Result, Ok, Err, OnOk, OnErr}
use Rattle.std.proofs.Math.Nat.{div-add-mod, mod-lt}
use Rattle.std.proofs.Math.Seq.{take-set-lt, take-append_seam, drop-append_seam, take-add}
use Rattle.std.proofs.lemmas.List.{length-append, length-replicate, length-take, length-take-le, length-drop, take_all, take-replicate, drop-append-le, set-get_or, get_or_append_left, get_or-append-add, set-append_left, set-append_right, drop-set-lt, append_assoc, append-nil, take-append-drop, replicate-append-replicate, get_or-take, drop-replicate, take_more, drop-drop, drop-take, take-set-le, get_or-set_same, get_or-set_other}
use Rattle.std.proofs.lemmas.Bool.{cases_lt, false≢true}
use Rattle.std.proofs.lemmas.Grind.{div_ceil_times}
use Rattle.array_eval.specs.Equal.{store_eq}
use Rattle.array_eval.specs.Pages.{padded, cells_on, pages_for, ArePages, page_at, AreChanged}

-- Each page has 64 cells.
abbrev pub AreWhole : List (List ℤ) → Type 0
AreWhole pages = All (λ page. length page ≡ 64) pages

first_whole : (page : List ℤ) (more : List (List ℤ)) → AreWhole (page ∷ more) → length page ≡ 64
first_whole page more whole = whole zero page (omega arith)

others_whole : (page : List ℤ) (more : List (List ℤ)) → AreWhole (page ∷ more) → AreWhole more
others_whole page more whole = λ k d h. whole (suc k) d (omega (arith, h))

pub cells_append : (ps qs : List (List ℤ)) → cells_on (ps ++ qs) ≡ cells_on ps ++ cells_on qs
cells_append [] qs = refl
cells_append (p ∷ ps) qs = ap (λ x. p ++ x) (cells_append ps qs) ∙ sym (append_assoc p (cells_on ps) (cells_on qs))

pub length_on : (pages : List (List ℤ)) → AreWhole pages → length (cells_on pages) ≡ 64 * length pages
length_on [] whole = refl
length_on (p ∷ ps) whole =
    let front = first_whole p ps whole in
    let rest = length_on ps (others_whole p ps whole) in
    let both = length-append p (cells_on ps) in
    omega (arith, front, rest, both)

-- The cell at an index of a page.
pub get_at : (pages : List (List ℤ)) (q r : ℕ) (page : List ℤ) (d : ℤ) → AreWhole pages → q < length pages → r < 64 →
    get_or (cells_on pages) (64 * q + r) d ≡ get_or (get_or pages q page) r d
get_at [] q r page d whole in_q in_r = absurd (omega (arith, in_q))
get_at (p ∷ ps) zero r page d whole in_q in_r =
    let front = first_whole p ps whole in
    let place : 64 * 0 + r ≡ r = omega arith in
    ap (λ i. get_or (p ++ cells_on ps) i d) place ∙ get_or_append_left p (cells_on ps) d r (omega (arith, front, in_r))
get_at (p ∷ ps) (suc q) r page d whole in_q in_r =
    let front = first_whole p ps whole in
    let place : 64 * suc q + r ≡ length p + (64 * q + r) = omega (arith, front) in
    ap (λ i. get_or (p ++ cells_on ps) i d) place
    ∙ get_or-append-add p (cells_on ps) (64 * q + r) d
    ∙ get_at ps q r page d (others_whole p ps whole) (omega (arith, in_q)) in_r

set_at : (pages : List (List ℤ)) (q r : ℕ) (page : List ℤ) (v : ℤ) → AreWhole pages → q < length pages → r < 64 →
    cells_on (set pages q (set (get_or pages q page) r v)) ≡ set (cells_on pages) (64 * q + r) v
set_at [] q r page v whole in_q in_r = absurd (omega (arith, in_q))
set_at (p ∷ ps) zero r page v whole in_q in_r =
    let front = first_whole p ps whole in
    let place : 64 * 0 + r ≡ r = omega arith in
    sym (ap (λ i. set (p ++ cells_on ps) i v) place ∙ set-append_left p (cells_on ps) r v (omega (arith, front, in_r)))
set_at (p ∷ ps) (suc q) r page v whole in_q in_r =
    let front = first_whole p ps whole in
    let place : 64 * suc q + r - 64 ≡ 64 * q + r = omega arith in
    ap (λ x. p ++ x) (set_at ps q r page v (others_whole p ps whole) (omega (arith, in_q)) in_r)
    ∙ sym (set-append_right p (cells_on ps) 64 (64 * suc q + r) v front (omega arith)
    ∙ ap (λ i. p ++ set (cells_on ps) i v) place)

-- The page of a cell exists.
pub page_there : (count cell : ℕ) (pages : List (List ℤ)) → ArePages count pages → cell < count → cell / 64 < length pages
page_there count cell pages right h =
    let many = right.fewest in
    let few = (div_ceil_times count 64 (omega arith)).0 in
    let whole = div-add-mod cell 64 in
    omega (arith, many, few, whole, h)

pub cell_of_page : (count cell : ℕ) (pages : List (List ℤ)) (page : List ℤ) (d : ℤ) → ArePages count pages → cell < count →
    get_or (get_or pages (cell / 64) page) (cell % 64) d ≡ get_or (take count (cells_on pages)) cell d
cell_of_page count cell pages page d right h =
    sym (get_or-take count (cells_on pages) cell d h
    ∙ ap (λ i. get_or (cells_on pages) i d) (sym (div-add-mod cell 64))
    ∙ get_at pages (cell / 64) (cell % 64) page d right.whole (page_there count cell pages right h) (mod-lt cell (omega arith)))

put_on : (count cell : ℕ) (pages : List (List ℤ)) (page : List ℤ) (v : ℤ) → ArePages count pages → cell < count →
    cells_on (set pages (cell / 64) (set (get_or pages (cell / 64) page) (cell % 64) v)) ≡ set (cells_on pages) cell v
put_on count cell pages page v right h =
    set_at pages (cell / 64) (cell % 64) page v right.whole (page_there count cell pages right h) (mod-lt cell (omega arith))
    ∙ ap (λ i. set (cells_on pages) i v) (div-add-mod cell 64)

-- A cell is written in its page.
pub put_in_page : (count cell : ℕ) (pages : List (List ℤ)) (page : List ℤ) (v : ℤ) → ArePages count pages → cell < count →
    take count (cells_on (set pages (cell / 64) (set (get_or pages (cell / 64) page) (cell % 64) v))) ≡ set (take count (cells_on pages)) cell v
put_in_page count cell pages page v right h = ap (take count) (put_on count cell pages page v right h) ∙ take-set-lt count (cells_on pages) cell v h

whole_set : (pages : List (List ℤ)) (q : ℕ) (page : List ℤ) → AreWhole pages → length page ≡ 64 → AreWhole (set pages q page)
whole_set [] q page whole h = whole
whole_set (p ∷ ps) zero page whole h = λ k d in_k. cases k d in_k
  where
    cases : (k : ℕ) (d : List ℤ) → k < length (page ∷ ps) → length (get_or (page ∷ ps) k d) ≡ 64
    cases zero d in_k = h
    cases (suc k) d in_k = whole (suc k) d in_k
whole_set (p ∷ ps) (suc q) page whole h = λ k d in_k. cases (whole_set ps q page (others_whole p ps whole) h) k d in_k
  where
    cases : AreWhole (set ps q page) → (k : ℕ) (d : List ℤ) → k < length (p ∷ set ps q page) → length (get_or (p ∷ set ps q page) k d) ≡ 64
    cases ih zero d in_k = first_whole p ps whole
    cases ih (suc k) d in_k = ih k d (omega (arith, in_k))

pub still_pages : (count cell : ℕ) (pages : List (List ℤ)) (page : List ℤ) (v : ℤ) → ArePages count pages → cell < count →
    ArePages count (set pages (cell / 64) (set (get_or pages (cell / 64) page) (cell % 64) v))
still_pages count cell pages page v right h =
    let there = page_there count cell pages right h in
    let same = length-set (get_or pages (cell / 64) page) (cell % 64) v in
    let as_many = length-set pages (cell / 64) (set (get_or pages (cell / 64) page) (cell % 64) v) in
    record {
      whole = whole_set pages (cell / 64) (set (get_or pages (cell / 64) page) (cell % 64) v) right.whole (same ∙ right.whole (cell / 64) page there);
      fewest = as_many ∙ right.fewest;
      zeros = ap (drop count) (put_on count cell pages page v right h) ∙ drop-set-lt count (cells_on pages) cell v h
          ∙ right.zeros ∙ ap (λ n. replicate (64 * n - count) (pos 0)) (sym as_many);
    }

-- ---- making pages

pub zeros_behind : (n m : ℕ) → drop n (replicate m (pos 0)) ≡ replicate (m - n) (pos 0)
zeros_behind n m = drop-replicate n m (pos 0)

-- A cell of the view is below the end.
pub below_count : (count : ℕ) (cells view : List ℤ) (cell : ℕ) → take count cells ≡ view → cell < length view → cell < count
below_count count cells view cell e h =
    let long = length-take count cells in
    let same : length (take count cells) ≡ length view = ap length e in
    omega (arith, long, same, h)

-- A page that was written, or wasn't because an allocation failed.
pub put_or_not : {E : Type 0} (count cell : ℕ) (pages : List (List ℤ)) (page new : List ℤ) (v : ℤ) (r : Result (Unit {0}) E) → ArePages count pages → cell < count →
    OnOk r (new ≡ set (get_or pages (cell / 64) page) (cell % 64) v) → OnErr r (new ≡ get_or pages (cell / 64) page) →
    ArePages count (set pages (cell / 64) new)
put_or_not count cell pages page new v (Ok u) right h ok err = rw ok (still_pages count cell pages page v right h)
put_or_not count cell pages page new v (Err e) right h ok err = rw (err, set-get_or pages (cell / 64) page) right

pub one_more : (pages : List (List ℤ)) (i : ℕ) (d : List ℤ) → i < length pages → cells_on (take (i + 1) pages) ≡ cells_on (take i pages) ++ get_or pages i d
one_more pages i d h =
    ap cells_on (take_more pages i d h) ∙ cells_append (take i pages) (get_or pages i d ∷ [])
    ∙ ap (λ xs. cells_on (take i pages) ++ xs) (append-nil (get_or pages i d))

-- ---- comparing pages

-- The cells of the view, and zeros after them.
all_cells : (count : ℕ) (pages : List (List ℤ)) → ArePages count pages →
    cells_on pages ≡ take count (cells_on pages) ++ replicate (64 * pages_for count - count) (pos 0)
all_cells count pages right =
    sym (take-append-drop count (cells_on pages))
    ∙ ap (λ xs. take count (cells_on pages) ++ xs) (right.zeros ∙ ap (λ n. replicate (64 * n - count) (pos 0)) right.fewest)

same_pages : (ps qs : List (List ℤ)) → AreWhole ps → AreWhole qs → length ps ≡ length qs → cells_on ps ≡ cells_on qs → ps ≡ qs
same_pages [] [] whole whole' long e = refl
same_pages [] (q ∷ qs) whole whole' long e = absurd (omega (arith, long))
same_pages (p ∷ ps) [] whole whole' long e = absurd (omega (arith, long))
same_pages (p ∷ ps) (q ∷ qs) whole whole' long e =
    let as_long = first_whole p ps whole ∙ sym (first_whole q qs whole') in
    let front : p ≡ q = sym (take-append_seam p (cells_on ps)) ∙ ap (take (length p)) e ∙ ap (λ n. take n (q ++ cells_on qs)) as_long ∙ take-append_seam q (cells_on qs) in
    let back : cells_on ps ≡ cells_on qs = sym (drop-append_seam p (cells_on ps)) ∙ ap (drop (length p)) e ∙ ap (λ n. drop n (q ++ cells_on qs)) as_long ∙ drop-append_seam q (cells_on qs) in
    ap (λ x. x ∷ ps) front ∙ ap (λ xs. q ∷ xs) (same_pages ps qs (others_whole p ps whole) (others_whole q qs whole') (omega (arith, long)) back)

-- The length of the view.
pub length_seen : (count : ℕ) (pages : List (List ℤ)) → ArePages count pages → length (take count (cells_on pages)) ≡ count
length_seen count pages right =
    let few = (div_ceil_times count 64 (omega arith)).0 in
    let many = right.fewest in
    let long = length_on pages right.whole in
    length-take-le count (cells_on pages) (omega (arith, few, many, long))

-- Pages with equal views are equal.
pub pages_decide : (count : ℕ) (ps qs : List (List ℤ)) → ArePages count ps → ArePages count qs → take count (cells_on ps) ≡ take count (cells_on qs) → ps ≡ qs
pages_decide count ps qs right right' e =
    same_pages ps qs right.whole right'.whole (right.fewest ∙ sym right'.fewest)
    (all_cells count ps right ∙ ap (λ xs. xs ++ replicate (64 * pages_for count - count) (pos 0)) e ∙ sym (all_cells count qs right'))

-- ---- laying cells on pages

-- The cells that are laid out, and zeros after them.
abbrev pub filled : List ℤ → List ℤ
filled cells = cells ++ replicate (64 * pages_for (length cells) - length cells) (pos 0)

length_filled : (cells : List ℤ) → length (filled cells) ≡ 64 * pages_for (length cells)
length_filled cells =
    let both = length-append cells (replicate (64 * pages_for (length cells) - length cells) (pos 0)) in
    let behind = length-replicate (64 * pages_for (length cells) - length cells) (pos 0) in
    let few = (div_ceil_times (length cells) 64 (omega arith)).0 in
    omega (arith, both, behind, few)

-- The first cells of a list, with zeros after it.
take_filled : (n z : ℕ) (xs : List ℤ) → n ≤ length xs + z → take n (xs ++ replicate z (pos 0)) ≡ take n xs ++ replicate (n - length (take n xs)) (pos 0)
take_filled zero z xs h = refl
take_filled (suc n) z [] h =
    let all : suc n ≡ suc n - 0 = omega arith in
    take-replicate (suc n) z (pos 0) (omega (arith, h)) ∙ ap (λ k. replicate k (pos 0)) all
take_filled (suc n) z (x ∷ xs) h =
    let left : suc n - length (x ∷ take n xs) ≡ n - length (take n xs) = omega arith in
    ap (λ ys. x ∷ ys) (take_filled n z xs (omega (arith, h))) ∙ ap (λ k. x ∷ take n xs ++ replicate k (pos 0)) (sym left)

pub length_padded : (cells : List ℤ) → length cells ≤ 64 → length (padded cells) ≡ 64
length_padded cells h =
    let both = length-append cells (replicate (64 - length cells) (pos 0)) in
    let behind = length-replicate (64 - length cells) (pos 0) in
    omega (arith, both, behind, h)

-- The cells of a page begin before the end.
pub page_begins : (count number : ℕ) → number < pages_for count → 64 * number < count
page_begins count number h =
    let few = (div_ceil_times count 64 (omega arith)).1 in
    omega (arith, few, h)

next_page : (cells : List ℤ) (number : ℕ) → number < pages_for (length cells) →
    take (64 * (number + 1)) (filled cells) ≡ take (64 * number) (filled cells) ++ padded (take 64 (drop (64 * number) cells))
next_page cells number h =
    let behind = 64 * pages_for (length cells) - length cells in
    let start = page_begins (length cells) number h in
    let long = length-drop (64 * number) cells in
    let place : 64 * (number + 1) ≡ 64 * number + 64 = omega arith in
    ap (λ n. take n (filled cells)) place
    ∙ take-add (64 * number) 64 (filled cells)
    ∙ ap (λ xs. take (64 * number) (filled cells) ++ take 64 xs) (drop-append-le (64 * number) cells (replicate behind (pos 0)) (omega (arith, start)))
    ∙ ap (λ xs. take (64 * number) (filled cells) ++ xs) (take_filled 64 behind (drop (64 * number) cells) (omega (arith, start, long, h)))

-- The cells of one more page are laid out.
pub laid_next : (cells : List ℤ) (number : ℕ) (pages : List (List ℤ)) (page : List ℤ) → number < pages_for (length cells) →
    cells_on pages ≡ take (64 * number) (filled cells) → page ≡ padded (take 64 (drop (64 * number) cells)) →
    cells_on (pages ++ page ∷ []) ≡ take (64 * (number + 1)) (filled cells)
laid_next cells number pages page h before here =
    cells_append pages (page ∷ []) ∙ ap (λ xs. cells_on pages ++ xs) (append-nil page ∙ here)
    ∙ ap (λ xs. xs ++ padded (take 64 (drop (64 * number) cells))) before ∙ sym (next_page cells number h)

pub whole_push : (pages : List (List ℤ)) (cells page : List ℤ) → AreWhole pages → page ≡ padded cells → length cells ≤ 64 → AreWhole (pages ++ page ∷ [])
whole_push [] cells page whole e h = λ k d in_k. one k d in_k
  where
    one : (k : ℕ) (d : List ℤ) → k < length (page ∷ []) → length (get_or (page ∷ []) k d) ≡ 64
    one zero d in_k = ap length e ∙ length_padded cells h
    one (suc k) d in_k = absurd (omega (arith, in_k))
whole_push (p ∷ ps) cells page whole e h = λ k d in_k. cases (whole_push ps cells page (others_whole p ps whole) e h) k d in_k
  where
    cases : AreWhole (ps ++ page ∷ []) → (k : ℕ) (d : List ℤ) → k < length (p ∷ (ps ++ page ∷ [])) → length (get_or (p ∷ (ps ++ page ∷ [])) k d) ≡ 64
    cases ih zero d in_k = first_whole p ps whole
    cases ih (suc k) d in_k = ih k d (omega (arith, in_k))

laid_all : (cells : List ℤ) (pages : List (List ℤ)) → cells_on pages ≡ take (64 * pages_for (length cells)) (filled cells) → cells_on pages ≡ filled cells
laid_all cells pages laid =
    let long = length_filled cells in
    laid ∙ take_all (64 * pages_for (length cells)) (filled cells) (omega (arith, long))

-- All cells are laid out.
pub laid_pages : (cells : List ℤ) (pages : List (List ℤ)) → cells_on pages ≡ take (64 * pages_for (length cells)) (filled cells) → AreWhole pages →
    length pages ≡ pages_for (length cells) → ArePages (length cells) pages
laid_pages cells pages laid whole many =
    let behind = 64 * pages_for (length cells) - length cells in
    record {
      whole = whole;
      fewest = many;
      zeros = ap (drop (length cells)) (laid_all cells pages laid) ∙ drop-append_seam cells (replicate behind (pos 0))
          ∙ ap (λ n. replicate (64 * n - length cells) (pos 0)) (sym many);
    }

pub laid_cells : (cells : List ℤ) (pages : List (List ℤ)) → cells_on pages ≡ take (64 * pages_for (length cells)) (filled cells) →
    take (length cells) (cells_on pages) ≡ cells
laid_cells cells pages laid =
    ap (take (length cells)) (laid_all cells pages laid) ∙ take-append_seam cells (replicate (64 * pages_for (length cells) - length cells) (pos 0))

-- ---- pages of zeros

zeros_on : (n : ℕ) → cells_on (replicate n (padded [])) ≡ replicate (64 * n) (pos 0)
zeros_on zero = refl
zeros_on (suc n) =
    let more : 64 * suc n ≡ 64 + 64 * n = omega arith in
    ap (λ xs. padded [] ++ xs) (zeros_on n) ∙ replicate-append-replicate 64 (64 * n) (pos 0) ∙ ap (λ k. replicate k (pos 0)) (sym more)

whole_zeros : (n : ℕ) → AreWhole (replicate n (padded []))
whole_zeros zero = λ k d in_k. absurd (omega (arith, in_k))
whole_zeros (suc n) = λ k d in_k. cases (whole_zeros n) k d in_k
  where
    cases : AreWhole (replicate n (padded [])) → (k : ℕ) (d : List ℤ) → k < length (padded [] ∷ replicate n (padded [])) → length (get_or (padded [] ∷ replicate n (padded [])) k d) ≡ 64
    cases ih zero d in_k = length-replicate 64 (pos 0)
    cases ih (suc k) d in_k = ih k d (omega (arith, in_k))

pub zero_pages : (count : ℕ) → ArePages count (replicate (pages_for count) (padded []))
zero_pages count =
    let many = length-replicate (pages_for count) (padded []) in
    record {
      whole = whole_zeros (pages_for count);
      fewest = many;
      zeros = ap (drop count) (zeros_on (pages_for count)) ∙ drop-replicate count (64 * pages_for count) (pos 0)
          ∙ ap (λ n. replicate (64 * n - count) (pos 0)) (sym many);
    }

pub zero_cells : (count : ℕ) → take count (cells_on (replicate (pages_for count) (padded []))) ≡ replicate count (pos 0)
zero_cells count =
    let few = (div_ceil_times count 64 (omega arith)).0 in
    ap (take count) (zeros_on (pages_for count)) ∙ take-replicate count (64 * pages_for count) (pos 0) (omega (arith, few))

-- ---- the cells of one page

-- The page at an index has the cells of that page.
page_in : (pages : List (List ℤ)) (number : ℕ) (d : List ℤ) → AreWhole pages → number < length pages → page_at number (cells_on pages) ≡ get_or pages number d
page_in [] number d whole h = absurd (omega (arith, h))
page_in (p ∷ ps) zero d whole h =
    let front = first_whole p ps whole in
    ap (λ n. take n (p ++ cells_on ps)) (sym front) ∙ take-append_seam p (cells_on ps)
page_in (p ∷ ps) (suc number) d whole h =
    let front = first_whole p ps whole in
    let place : 64 * suc number ≡ 64 + 64 * number = omega arith in
    let behind : drop 64 (p ++ cells_on ps) ≡ cells_on ps = ap (λ n. drop n (p ++ cells_on ps)) (sym front) ∙ drop-append_seam p (cells_on ps) in
    ap (take 64) (ap (λ n. drop n (p ++ cells_on ps)) place ∙ sym (drop-drop (64 * number) 64 (p ++ cells_on ps)) ∙ ap (drop (64 * number)) behind)
    ∙ page_in ps number d (others_whole p ps whole) (omega (arith, h))

-- The page at an index has the view's cells of that page, and zeros after them.
pub page_seen : (count number : ℕ) (pages : List (List ℤ)) (d : List ℤ) → ArePages count pages → number < length pages →
    get_or pages number d ≡ padded (page_at number (take count (cells_on pages)))
page_seen count number pages d right h =
    let view = take count (cells_on pages) in
    let behind = 64 * pages_for count - count in
    let many = right.fewest in
    let start = page_begins count number (omega (arith, h, many)) in
    let seen = length_seen count pages right in
    let long = length-drop (64 * number) view in
    let room = (div_ceil_times count 64 (omega arith)).0 in
    sym (page_in pages number d right.whole h)
    ∙ ap (page_at number) (all_cells count pages right)
    ∙ ap (take 64) (drop-append-le (64 * number) view (replicate behind (pos 0)) (omega (arith, start, seen)))
    ∙ take_filled 64 behind (drop (64 * number) view) (omega (arith, start, seen, long, room, h, many))

-- A flag within the list reads the same for either default.
pub no_flag : (flags : List Bool) (number : ℕ) → number < length flags → get_or flags number false ≡ false → get_or flags number true ≡ false
no_flag [] number h e = absurd (omega (arith, h))
no_flag (f ∷ flags) zero h e = e
no_flag (f ∷ flags) (suc number) h e = no_flag flags number (omega (arith, h)) e

-- No page is changed yet.
pub none_changed : (cells : List ℤ) → AreChanged (replicate (pages_for (length cells)) false) cells cells
none_changed cells = record { as_many = refl; marks = length-replicate (pages_for (length cells)) false; kept = λ number mark. refl }

-- A write to a cell leaves the other pages.
other_page : (cells : List ℤ) (cell number : ℕ) (v : ℤ) → number ≢ cell / 64 → page_at number (set cells cell v) ≡ page_at number cells
other_page cells cell number v other =
    let whole = div-add-mod cell 64 in
    let rest : cell % 64 < 64 = mod-lt cell (omega arith) in
    let apart : cell / 64 ≡ number → ⊥ = λ e. other (sym e) in
    elim (cases_lt number (cell / 64)) [
      | inl before ↦
          (sym (drop-take (64 * number) 64 (set cells cell v))
          ∙ ap (drop (64 * number)) (take-set-le (64 * number + 64) cells cell v (omega (arith, before, whole)))
          ∙ drop-take (64 * number) 64 cells)
      | inr behind ↦
          (let less : cell / 64 < number = omega (arith, behind, apart) in
          ap (take 64) (drop-set-lt (64 * number) cells cell v (omega (arith, less, whole, rest))))
    ]

-- The page of a cell has its mark.
pub mark_there : (changed : List Bool) (before cells : List ℤ) (cell : ℕ) → AreChanged changed before cells → cell < length cells → cell / 64 < length changed
mark_there changed before cells cell all h =
    let many = all.marks in
    let few = (div_ceil_times (length cells) 64 (omega arith)).0 in
    let whole = div-add-mod cell 64 in
    omega (arith, many, few, whole, h)

-- A cell is written, and its page is marked.
pub one_changed : (changed : List Bool) (before cells : List ℤ) (cell : ℕ) (v : ℤ) → AreChanged changed before cells → cell < length cells →
    AreChanged (set changed (cell / 64) true) before (set cells cell v)
one_changed changed before cells cell v all h =
    let there = mark_there changed before cells cell all h in
    record {
      as_many = all.as_many ∙ sym (length-set cells cell v);
      marks = length-set changed (cell / 64) true ∙ all.marks ∙ ap pages_for (sym (length-set cells cell v));
      kept = λ number mark.
          let other : number ≢ cell / 64 = λ e. false≢true (sym mark ∙ ap (λ n. get_or (set changed (cell / 64) true) n true) e ∙ get_or-set_same changed (cell / 64) true true there) in
          all.kept number (sym (get_or-set_other changed (cell / 64) number true true other) ∙ mark) ∙ sym (other_page cells cell number v other);
    }

-- ---- comparing cells one by one

and_assoc : (a b c : Bool) → (a && (b && c)) ≡ ((a && b) && c)
and_assoc true b c = refl
and_assoc false b c = refl

and_true : (a : Bool) → (a && true) ≡ a
and_true true = refl
and_true false = refl

one_after : (xs ys : List ℤ) (x y : ℤ) → length xs ≡ length ys → store_eq (xs ++ x ∷ []) (ys ++ y ∷ []) ≡ (store_eq xs ys && int_eq x y)
one_after [] [] x y e = and_true (int_eq x y)
one_after [] (b ∷ ys) x y e = absurd (omega (arith, e))
one_after (a ∷ xs) [] x y e = absurd (omega (arith, e))
one_after (a ∷ xs) (b ∷ ys) x y e = ap (λ r. int_eq a b && r) (one_after xs ys x y (omega (arith, e))) ∙ and_assoc (int_eq a b) (store_eq xs ys) (int_eq x y)

pub same_next : (a b : List ℤ) (i : ℕ) → i < length a → i < length b →
    (store_eq (take i a) (take i b) && int_eq (get_or a i (pos 0)) (get_or b i (pos 0))) ≡ store_eq (take (i + 1) a) (take (i + 1) b)
same_next a b i h k =
    let long : length (take i a) ≡ length (take i b) = length-take-le i a (omega (arith, h)) ∙ sym (length-take-le i b (omega (arith, k))) in
    sym (ap (λ xs. store_eq xs (take (i + 1) b)) (take_more a i (pos 0) h)
    ∙ ap (λ ys. store_eq (take i a ++ get_or a i (pos 0) ∷ []) ys) (take_more b i (pos 0) k)
    ∙ one_after (take i a) (take i b) (get_or a i (pos 0)) (get_or b i (pos 0)) long)
