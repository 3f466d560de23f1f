-- The table's marks of a cell, visit by visit.
use Rattle.std.proofs.Common.{◌≡◌, ℕ, ◌<◌, cond, Bool, true, false, List, length, Option, Some, None, ℤ, refl, sym, ap, subst, ◌∙◌, arith, length-set}
use Rattle.std.specs.Prelude.{nat_eq, ◌&&◌, ◌||◌, not, slice_set}
use Rattle.std.proofs.lemmas.Bool.{false≢true}
use Rattle.std.proofs.lemmas.Bool.Decides.{nat_tests}
use Rattle.std.proofs.lemmas.List.{get_or-set_same, get_or-set_other}
use Rattle.array_meaning.specs.Stores.{Arrays, length_of, cell_of, cells_of}
use Rattle.array_meaning.specs.Overlap.{covers}
use Rattle.array_meaning.specs.Accepted.{is_inside}
use Rattle.site_walk.specs.declared.touched.Touched.{Touched}
use Rattle.site_walk.specs.declared.table.Table.{Table}
use Rattle.site_walk.specs.Inside.Touched.{joined, clashes, touched_at, untouched}
use Rattle.array_eval.specs.Layouts.{number_of}
use Rattle.site_walk.specs.Inside.Numbers.{array_at}
use Rattle.site_walk.specs.Inside.Marks.{with_static, with_dynamic, with_touch, added, done_at, HasPlaces}
use Rattle.site_walk.proofs.TouchedLemmas.{joined_assoc, joined_turned, joined_again, clashes_part}
use Rattle.site_walk.proofs.NumberLemmas.{array_there, covers_number, inside_number}

-- ---- lists of what is done

-- The value at the index that was set.
set_here : (xs : List Touched) (i j : ℕ) (t : Touched) → j ≡ i → j < length xs → touched_at (slice_set xs i t) j ≡ t
set_here xs i j t e h = ap (λ k. touched_at (slice_set xs k t) j) (sym e) ∙ get_or-set_same xs j t untouched h

-- The values at other indices stay.
set_there : (xs : List Touched) (i j : ℕ) (t : Touched) → (j ≡ i → ⊥) → touched_at (slice_set xs i t) j ≡ touched_at xs j
set_there xs i j t n = get_or-set_other xs i j t untouched n

-- Both cases, by the test.
set_by_test : (xs : List Touched) (i j : ℕ) (t : Touched) (b : Bool) → nat_eq j i ≡ b → j < length xs →
    touched_at (slice_set xs i t) j ≡ cond b t (touched_at xs j)
set_by_test xs i j t true e h = set_here xs i j t (let same : j ≡ i = grind (arith, nat_tests) in same) h
set_by_test xs i j t false e h = set_there xs i j t (λ same. false≢true (sym e ∙ let yes' : nat_eq j i ≡ true = grind (arith, nat_tests) in yes'))

-- ---- a visit's effect on a cell

-- The marks with a touch, if there is one.
abbrev pub touch_if : Bool → Touched → Touched → Touched
touch_if b touch done = cond b (joined touch done) done

join_if : (b : Bool) (t x y : Touched) → joined (cond b (joined t x) x) y ≡ touch_if b t (joined x y)
join_if true t x y = joined_assoc t x y
join_if false t x y = refl

join_if_right : (b : Bool) (t x y : Touched) → joined x (cond b (joined t y) y) ≡ touch_if b t (joined x y)
join_if_right true t x y = joined_turned x t y
join_if_right false t x y = refl

-- At its own index, the old marks may stand for those of the set index.
cond_same : (xs : List Touched) (i j : ℕ) (t : Touched) (b : Bool) → nat_eq j i ≡ b →
    cond b (joined t (touched_at xs i)) (touched_at xs j) ≡ cond b (joined t (touched_at xs j)) (touched_at xs j)
cond_same xs i j t true e = ap (λ k. joined t (touched_at xs k)) (let same : i ≡ j = grind (arith, nat_tests) in same)
cond_same xs i j t false e = refl

add_by_test : (xs : List Touched) (i j : ℕ) (t : Touched) → j < length xs →
    touched_at (added i t xs) j ≡ touch_if (nat_eq j i) t (touched_at xs j)
add_by_test xs i j t h =
    set_by_test xs i j (joined t (touched_at xs i)) (nat_eq j i) refl h ∙ cond_same xs i j t (nat_eq j i) refl

-- The marks after a visit.
pub done_with_touch : (arrays : Arrays) (touch : Touched) (name : List ℕ) (index : Option ℤ) (t : Table) (c : ℕ) → HasPlaces arrays t → c < cells_of arrays →
    done_at arrays (with_touch arrays touch name index t) c ≡ touch_if (covers arrays name index c) touch (done_at arrays t c)
unfolding with_static with_dynamic
done_with_touch arrays touch name (Some i) t c places small =
    let h : c < length t.cells = (let e = places.cells in omega arith) in
    let k = cell_of arrays name false i in
    ap (λ x. joined x (touched_at t.everywhere (array_at arrays c))) (add_by_test t.cells k c touch h)
    ∙ join_if (nat_eq c k) touch (touched_at t.cells c) (touched_at t.everywhere (array_at arrays c))
done_with_touch arrays touch name None t c places small =
    let there = array_there arrays c small in
    let h : array_at arrays c < length t.everywhere = (let e = places.everywhere in omega arith) in
    let k = number_of arrays name in
    ap (joined (touched_at t.cells c)) (add_by_test t.everywhere k (array_at arrays c) touch h)
    ∙ join_if_right (nat_eq (array_at arrays c) k) touch (touched_at t.cells c) (touched_at t.everywhere (array_at arrays c))
    ∙ ap (λ b. touch_if b touch (done_at arrays t c)) (sym (covers_number arrays name c small))

-- ---- the numbers of entries stay

pub places_stay : (arrays : Arrays) (touch : Touched) (name : List ℕ) (index : Option ℤ) (t : Table) → HasPlaces arrays t →
    HasPlaces arrays (with_touch arrays touch name index t)
unfolding with_static with_dynamic
places_stay arrays touch name (Some i) t places =
    let all = joined touch (touched_at t.cells (cell_of arrays name false i)) in
    let n = number_of arrays name in
    record {
      cells = length-set t.cells (cell_of arrays name false i) all ∙ places.cells;
      everywhere = places.everywhere;
      read = kept all.written t.read (added n all t.read) (length-set t.read n (joined all (touched_at t.read n))) ∙ places.read;
      written = kept_other all.written t.written (added n all t.written) (length-set t.written n (joined all (touched_at t.written n))) ∙ places.written;
    }
  where
    kept : (b : Bool) (xs ys : List Touched) → length ys ≡ length xs → length (cond b xs ys) ≡ length xs
    kept true xs ys e = refl
    kept false xs ys e = e

    kept_other : (b : Bool) (xs ys : List Touched) → length ys ≡ length xs → length (cond b ys xs) ≡ length xs
    kept_other true xs ys e = e
    kept_other false xs ys e = refl
places_stay arrays touch name None t places =
    let n = number_of arrays name in
    record {
      cells = places.cells;
      everywhere = length-set t.everywhere n (joined touch (touched_at t.everywhere n)) ∙ places.everywhere;
      read = places.read;
      written = places.written;
    }

-- ---- if nothing is suspect, nothing clashes

-- What a table keeps of a cell while nothing is suspect: what was done to the cell is part of what was done to the cells of
-- its array that are written, or only read; and nothing clashes on the cell.
pub record IsClear (arrays : Arrays) (t : Table) (c : ℕ) : Type 0 where
  pub part : joined (touched_at t.cells c) (cond (touched_at t.cells c).written (touched_at t.written (array_at arrays c)) (touched_at t.read (array_at arrays c)))
      ≡ cond (touched_at t.cells c).written (touched_at t.written (array_at arrays c)) (touched_at t.read (array_at arrays c))
  pub clear : clashes (done_at arrays t c) ≡ false

or_none : (a b : Bool) → (a || b) ≡ false → (a ≡ false) × (b ≡ false)
or_none true b e = absurd (false≢true (sym e))
or_none false b e = (refl, e)

not_none : (a : Bool) → not a ≡ false → a ≡ true
not_none true e = refl
not_none false e = absurd (false≢true (sym e))

-- A part of the marks stays a part of more marks.
part_more : (x s t : Touched) → joined x s ≡ s → joined x (joined t s) ≡ joined t s
part_more x s t e = joined_turned x t s ∙ ap (joined t) e

-- The same if the further marks are conditional.
part_if : (b : Bool) (x s t : Touched) → joined x s ≡ s → joined x (touch_if b t s) ≡ touch_if b t s
part_if true x s t e = part_more x s t e
part_if false x s t e = e

-- Marks that don't clash with all don't clash with a part.
clear_part : (x s y : Touched) → joined x s ≡ s → clashes (joined y s) ≡ false → clashes (joined x y) ≡ false
clear_part x s y e h =
    clashes_part (joined x y) s
    (ap clashes (joined_assoc x y s ∙ joined_turned x y s ∙ ap (joined y) e) ∙ h)

-- What was done to a cell stays part of its array's sums after more is done.
part_in : (cw bw br : Bool) (x t w r w' r' : Touched) → w' ≡ touch_if bw t w → r' ≡ touch_if br t r →
    joined x (cond cw w r) ≡ cond cw w r → joined x (cond cw w' r') ≡ cond cw w' r'
part_in true bw br x t w r w' r' e f h = ap (joined x) e ∙ part_if bw x w t h ∙ sym e
part_in false bw br x t w r w' r' e f h = ap (joined x) f ∙ part_if br x r t h ∙ sym f

-- A summand is part of the sum.
part_own : (cw : Bool) (all w r w' r' : Touched) → (cw ≡ true → w' ≡ joined all w) → (cw ≡ false → r' ≡ joined all r) →
    joined all (cond cw w' r') ≡ cond cw w' r'
part_own true all w r w' r' e f = ap (joined all) (e refl) ∙ joined_again all w ∙ sym (e refl)
part_own false all w r w' r' e f = ap (joined all) (f refl) ∙ joined_again all r ∙ sym (f refl)

written_sum : (aw : Bool) (n j : ℕ) (all : Touched) (xs : List Touched) → j < length xs →
    touched_at (cond aw (added n all xs) xs) j ≡ touch_if (aw && nat_eq j n) all (touched_at xs j)
written_sum true n j all xs h = add_by_test xs n j all h
written_sum false n j all xs h = refl

read_sum : (aw : Bool) (n j : ℕ) (all : Touched) (xs : List Touched) → j < length xs →
    touched_at (cond aw xs (added n all xs)) j ≡ touch_if (not aw && nat_eq j n) all (touched_at xs j)
read_sum true n j all xs h = refl
read_sum false n j all xs h = add_by_test xs n j all h

written_own : (aw : Bool) (n j : ℕ) (all : Touched) (xs : List Touched) → j < length xs → j ≡ n → aw ≡ true →
    touched_at (cond aw (added n all xs) xs) j ≡ joined all (touched_at xs j)
written_own aw n j all xs h same e =
    written_sum aw n j all xs h ∙ ap (λ b. touch_if (b && nat_eq j n) all (touched_at xs j)) e
    ∙ ap (λ b. touch_if b all (touched_at xs j)) (let yes' : nat_eq j n ≡ true = grind (arith, nat_tests) in yes')

read_own : (aw : Bool) (n j : ℕ) (all : Touched) (xs : List Touched) → j < length xs → j ≡ n → aw ≡ false →
    touched_at (cond aw xs (added n all xs)) j ≡ joined all (touched_at xs j)
read_own aw n j all xs h same e =
    read_sum aw n j all xs h ∙ ap (λ b. touch_if (not b && nat_eq j n) all (touched_at xs j)) e
    ∙ ap (λ b. touch_if b all (touched_at xs j)) (let yes' : nat_eq j n ≡ true = grind (arith, nat_tests) in yes')

-- What was done is part of one of two sums.
abbrev IsPart : Touched → Touched → Touched → Type 0
IsPart x w r = joined x (cond x.written w r) ≡ cond x.written w r

clash_of_sums : (cw : Bool) (all w r : Touched) → clashes (joined all r) ≡ false → clashes (joined all w) ≡ false → clashes (joined all (cond cw w r)) ≡ false
clash_of_sums true all w r e f = f
clash_of_sums false all w r e f = e

-- A touch by a static index.
static_stays : (arrays : Arrays) (touch : Touched) (name : List ℕ) (i : ℤ) (t : Table) (c : ℕ) → HasPlaces arrays t → c < cells_of arrays →
    (t.suspect ≡ false → IsClear arrays t c) → (with_touch arrays touch name (Some i) t).suspect ≡ false →
    (b : Bool) → nat_eq c (cell_of arrays name false i) ≡ b → IsClear arrays (with_touch arrays touch name (Some i) t) c
unfolding with_static
static_stays arrays touch name i t c places small before h true e =
    let n = number_of arrays name in
    let j = array_at arrays c in
    let k = cell_of arrays name false i in
    let all = joined touch (touched_at t.cells k) in
    let inside = is_inside (length_of arrays name) (Some i) in
    let parts = or_none (t.suspect || not inside) (clashes (joined all (touched_at t.everywhere n))) h in
    let within = not_none inside (or_none t.suspect (not inside) parts.0).1 in
    let at : c ≡ k = grind (arith, nat_tests) in
    let own : j ≡ n = inside_number arrays name i c small within at in
    let there = array_there arrays c small in
    let here : touched_at (slice_set t.cells k all) c ≡ all = set_here t.cells k c all at (let g = places.cells in omega arith) in
    let hw : j < length t.written = (let g = places.written in omega arith) in
    let hr : j < length t.read = (let g = places.read in omega arith) in
    record {
      part = subst (λ x. IsPart x (touched_at (cond all.written (added n all t.written) t.written) j) (touched_at (cond all.written t.read (added n all t.read)) j))
          (sym here)
          (part_own all.written all (touched_at t.written j) (touched_at t.read j) _ _
          (λ w. written_own all.written n j all t.written hw own w)
          (λ w. read_own all.written n j all t.read hr own w));
      clear = ap (λ x. clashes (joined x (touched_at t.everywhere j))) here
          ∙ ap (λ m. clashes (joined all (touched_at t.everywhere m))) own ∙ parts.1;
    }
static_stays arrays touch name i t c places small before h false e =
    let n = number_of arrays name in
    let j = array_at arrays c in
    let k = cell_of arrays name false i in
    let all = joined touch (touched_at t.cells k) in
    let inside = is_inside (length_of arrays name) (Some i) in
    let parts = or_none (t.suspect || not inside) (clashes (joined all (touched_at t.everywhere n))) h in
    let old = before (or_none t.suspect (not inside) parts.0).0 in
    let there = array_there arrays c small in
    let here : touched_at (slice_set t.cells k all) c ≡ touched_at t.cells c
    = set_by_test t.cells k c all false e (let g = places.cells in omega arith) in
    let hw : j < length t.written = (let g = places.written in omega arith) in
    let hr : j < length t.read = (let g = places.read in omega arith) in
    record {
      part = subst (λ x. IsPart x (touched_at (cond all.written (added n all t.written) t.written) j) (touched_at (cond all.written t.read (added n all t.read)) j))
          (sym here)
          (part_in (touched_at t.cells c).written (all.written && nat_eq j n) (not all.written && nat_eq j n) (touched_at t.cells c) all
          (touched_at t.written j) (touched_at t.read j) _ _
          (written_sum all.written n j all t.written hw)
          (read_sum all.written n j all t.read hr)
          old.part);
      clear = ap (λ x. clashes (joined x (touched_at t.everywhere j))) here ∙ old.clear;
    }

-- A touch by a dynamic index.
dynamic_stays : (arrays : Arrays) (touch : Touched) (name : List ℕ) (t : Table) (c : ℕ) → HasPlaces arrays t → c < cells_of arrays →
    (t.suspect ≡ false → IsClear arrays t c) → (with_touch arrays touch name None t).suspect ≡ false →
    (b : Bool) → nat_eq (array_at arrays c) (number_of arrays name) ≡ b → IsClear arrays (with_touch arrays touch name None t) c
unfolding with_dynamic
dynamic_stays arrays touch name t c places small before h true e =
    let n = number_of arrays name in
    let j = array_at arrays c in
    let all = joined touch (touched_at t.everywhere n) in
    let x = touched_at t.cells c in
    let parts = or_none (t.suspect || clashes (joined all (touched_at t.read n))) (clashes (joined all (touched_at t.written n))) h in
    let first = or_none t.suspect (clashes (joined all (touched_at t.read n))) parts.0 in
    let old = before first.0 in
    let own : j ≡ n = grind (arith, nat_tests) in
    let there = array_there arrays c small in
    let here : touched_at (slice_set t.everywhere n all) j ≡ all = set_here t.everywhere n j all own (let g = places.everywhere in omega arith) in
    record {
      part = old.part;
      clear = ap (λ y. clashes (joined x y)) here
          ∙ clear_part x (cond x.written (touched_at t.written j) (touched_at t.read j)) all old.part
          (clash_of_sums x.written all (touched_at t.written j) (touched_at t.read j)
          (ap (λ m. clashes (joined all (touched_at t.read m))) own ∙ first.1)
          (ap (λ m. clashes (joined all (touched_at t.written m))) own ∙ parts.1));
    }
dynamic_stays arrays touch name t c places small before h false e =
    let n = number_of arrays name in
    let j = array_at arrays c in
    let all = joined touch (touched_at t.everywhere n) in
    let parts = or_none (t.suspect || clashes (joined all (touched_at t.read n))) (clashes (joined all (touched_at t.written n))) h in
    let old = before (or_none t.suspect (clashes (joined all (touched_at t.read n))) parts.0).0 in
    let there = array_there arrays c small in
    let here : touched_at (slice_set t.everywhere n all) j ≡ touched_at t.everywhere j
    = set_by_test t.everywhere n j all false e (let g = places.everywhere in omega arith) in
    record { part = old.part; clear = ap (λ y. clashes (joined (touched_at t.cells c) y)) here ∙ old.clear }

pub clear_stays : (arrays : Arrays) (touch : Touched) (name : List ℕ) (index : Option ℤ) (t : Table) (c : ℕ) → HasPlaces arrays t → c < cells_of arrays →
    (t.suspect ≡ false → IsClear arrays t c) → (with_touch arrays touch name index t).suspect ≡ false → IsClear arrays (with_touch arrays touch name index t) c
clear_stays arrays touch name (Some i) t c places small before h =
    static_stays arrays touch name i t c places small before h (nat_eq c (cell_of arrays name false i)) refl
clear_stays arrays touch name None t c places small before h =
    dynamic_stays arrays touch name t c places small before h (nat_eq (array_at arrays c) (number_of arrays name)) refl
