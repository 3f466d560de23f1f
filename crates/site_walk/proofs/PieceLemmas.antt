-- The table's marks of a cell, piece by piece: the marks clash iff two pieces overlap.
use Rattle.std.proofs.Common.{◌≡◌, ℕ, zero, suc, ◌+◌, ◌-◌, ◌<◌, ◌≤◌, cond, Bool, true, false, List, [], ◌∷◌, length, replicate, Some, None, refl, sym, ap, ◌∙◌, arith}
use Rattle.std.specs.Prelude.{nat_eq, ◌&&◌, ◌||◌, not}
use Rattle.std.specs.List.{fold}
use Rattle.std.proofs.lemmas.Bool.{false≢true}
use Rattle.std.proofs.lemmas.List.{get_or-replicate, length-replicate}
use Rattle.array_meaning.specs.Stores.{Arrays, cells_of}
use Rattle.array_meaning.specs.Steps.{Steps}
use Rattle.array_meaning.specs.Touch.{Visit, walk}
use Rattle.array_meaning.specs.Overlap.{covers, changed, read, overlaps, first_from, overlap}
use Rattle.site_walk.specs.declared.touched.Pieces.{Pieces}
use Rattle.site_walk.specs.declared.touched.Pieces.TheVariants.{NoPiece, One, Several}
use Rattle.site_walk.specs.declared.touched.Touched.{Touched}
use Rattle.site_walk.specs.declared.table.Table.{Table}
use Rattle.site_walk.specs.Inside.Touched.{joined_pieces, joined, clashes, are_several, touched_at, untouched}
use Rattle.site_walk.specs.Inside.Numbers.{array_at}
use Rattle.site_walk.specs.Inside.Marks.{with_touch, with_visit, with_piece, with_pieces, touch_of, done_at, HasPlaces, cleared}
use Rattle.site_walk.proofs.TouchedLemmas.{joined_assoc, one_piece_twice, older_test}
use Rattle.site_walk.proofs.NumberLemmas.{array_there}
use Rattle.site_walk.proofs.ClashLemmas.{touch_if, done_with_touch, places_stay, IsClear, clear_stays}

-- ---- one piece

-- The marks after a piece that changes the cell, or reads it, or neither.
abbrev pub after_piece : ℕ → Bool → Bool → Touched → Touched
after_piece p w r done = touch_if (w || r) (touch_of p w) done

twice : (p : ℕ) (w x : Bool) (s : Touched) → joined (touch_of p w) (joined (touch_of p x) s) ≡ joined (touch_of p (w || x)) s
twice p w x s = sym (joined_assoc (touch_of p w) (touch_of p x) s) ∙ ap (λ b. joined b s) (one_piece_twice p w x)

-- One visit and then the others.
visit_first : (p : ℕ) (cov x w r : Bool) (s : Touched) →
    after_piece p w r (touch_if cov (touch_of p x) s) ≡ after_piece p ((x && cov) || w) ((not x && cov) || r) s
visit_first p false true w r s = refl
visit_first p false false w r s = refl
visit_first p true true true r s = twice p true true s
visit_first p true true false true s = twice p false true s
visit_first p true true false false s = refl
visit_first p true false true r s = twice p true false s
visit_first p true false false true s = twice p false false s
visit_first p true false false false s = refl

pub done_with_visits : (arrays : Arrays) (p : ℕ) (vs : List Visit) (t : Table) (c : ℕ) → HasPlaces arrays t → c < cells_of arrays →
    done_at arrays (fold (with_visit arrays p) t vs) c ≡ after_piece p (changed arrays vs c) (read arrays vs c) (done_at arrays t c)
done_with_visits arrays p [] t c places small = refl
done_with_visits arrays p (v ∷ vs) t c places small =
    let touch = touch_of p v.writes in
    done_with_visits arrays p vs (with_touch arrays touch v.array v.index t) c (places_stay arrays touch v.array v.index t places) small
    ∙ ap (after_piece p (changed arrays vs c) (read arrays vs c)) (done_with_touch arrays touch v.array v.index t c places small)
    ∙ visit_first p (covers arrays v.array v.index c) v.writes (changed arrays vs c) (read arrays vs c) (done_at arrays t c)

pub visits_keep_places : (arrays : Arrays) (p : ℕ) (vs : List Visit) (t : Table) → HasPlaces arrays t → HasPlaces arrays (fold (with_visit arrays p) t vs)
visits_keep_places arrays p [] t places = places
visits_keep_places arrays p (v ∷ vs) t places =
    let touch = touch_of p v.writes in
    visits_keep_places arrays p vs (with_touch arrays touch v.array v.index t) (places_stay arrays touch v.array v.index t places)

visits_stay_clear : (arrays : Arrays) (p : ℕ) (vs : List Visit) (t : Table) (c : ℕ) → HasPlaces arrays t → c < cells_of arrays →
    (t.suspect ≡ false → IsClear arrays t c) → (fold (with_visit arrays p) t vs).suspect ≡ false → IsClear arrays (fold (with_visit arrays p) t vs) c
visits_stay_clear arrays p [] t c places small before h = before h
visits_stay_clear arrays p (v ∷ vs) t c places small before h =
    let touch = touch_of p v.writes in
    visits_stay_clear arrays p vs (with_touch arrays touch v.array v.index t) c (places_stay arrays touch v.array v.index t places) small
    (λ g. clear_stays arrays touch v.array v.index t c places small before g) h

-- ---- several pieces

-- The marks of a cell after pieces that are numbered from one on.
abbrev done_after : Arrays → ℕ → List Steps → ℕ → Touched → Touched
done_after arrays p [] c done = done
done_after arrays p (q ∷ more) c done =
    done_after arrays (p + 1) more c (after_piece p (changed arrays (walk arrays q) c) (read arrays (walk arrays q) c) done)

done_with_pieces : (arrays : Arrays) (p : ℕ) (ps : List Steps) (t : Table) (c : ℕ) → HasPlaces arrays t → c < cells_of arrays →
    done_at arrays (with_pieces arrays p ps t) c ≡ done_after arrays p ps c (done_at arrays t c)
done_with_pieces arrays p [] t c places small = refl
done_with_pieces arrays p (q ∷ ps) t c places small =
    done_with_pieces arrays (p + 1) ps (with_piece arrays p q t) c (visits_keep_places arrays p (walk arrays q) t places) small
    ∙ ap (done_after arrays (p + 1) ps c) (done_with_visits arrays p (walk arrays q) t c places small)

pub pieces_keep_places : (arrays : Arrays) (p : ℕ) (ps : List Steps) (t : Table) → HasPlaces arrays t → HasPlaces arrays (with_pieces arrays p ps t)
pieces_keep_places arrays p [] t places = places
pieces_keep_places arrays p (q ∷ ps) t places = pieces_keep_places arrays (p + 1) ps (with_piece arrays p q t) (visits_keep_places arrays p (walk arrays q) t places)

pieces_stay_clear : (arrays : Arrays) (p : ℕ) (ps : List Steps) (t : Table) (c : ℕ) → HasPlaces arrays t → c < cells_of arrays →
    (t.suspect ≡ false → IsClear arrays t c) → (with_pieces arrays p ps t).suspect ≡ false → IsClear arrays (with_pieces arrays p ps t) c
pieces_stay_clear arrays p [] t c places small before h = before h
pieces_stay_clear arrays p (q ∷ ps) t c places small before h =
    pieces_stay_clear arrays (p + 1) ps (with_piece arrays p q t) c (visits_keep_places arrays p (walk arrays q) t places) small
    (λ g. visits_stay_clear arrays p (walk arrays q) t c places small before g) h

-- ---- the marks, and what some piece changed or read

abbrev are_some : Pieces → Bool
are_some NoPiece = false
are_some (One q) = true
are_some Several = true

-- The pieces have lower numbers.
abbrev AreOlder : ℕ → Pieces → Type 0
AreOlder p NoPiece = Unit {0}
AreOlder p (One q) = q < p
AreOlder p Several = Unit {0}

-- The marks by pieces of lower numbers: whether some piece changed the cell, and whether some piece read it.
record Reports (p : ℕ) (done : Touched) (was_changed was_read : Bool) : Type 0 where
  written : done.written ≡ was_changed
  some : are_some done.by ≡ (was_changed || was_read)
  older : AreOlder p done.by

no_more : (a : Bool) → (a || false) ≡ a
no_more true = refl
no_more false = refl

or_assoc : (a b c : Bool) → ((a || b) || c) ≡ (a || (b || c))
or_assoc true b c = refl
or_assoc false b c = refl

-- A clash after one more piece.
abbrev clash_then : Bool → Bool → Bool → Bool → Bool
clash_then w r x y = w && (y || x) || r && x

of_no_piece : (p : ℕ) (w r x y : Bool) → false ≡ (x || y) →
    clashes (after_piece p w r (record { by = NoPiece; written = x })) ≡ (clashes (record { by = NoPiece; written = x }) || clash_then w r x y)
of_no_piece p w r true y e = absurd (false≢true e)
of_no_piece p w r false true e = absurd (false≢true e)
of_no_piece p true true false false e = refl
of_no_piece p true false false false e = refl
of_no_piece p false true false false e = refl
of_no_piece p false false false false e = refl

of_several : (p : ℕ) (w r x y : Bool) → true ≡ (x || y) →
    clashes (after_piece p w r (record { by = Several; written = x })) ≡ (clashes (record { by = Several; written = x }) || clash_then w r x y)
of_several p w r false false e = absurd (false≢true (sym e))
of_several p true r true y e = refl
of_several p true r false true e = refl
of_several p false true true y e = refl
of_several p false true false true e = refl
of_several p false false true y e = refl
of_several p false false false true e = refl

two_of : (p q : ℕ) (w x : Bool) → nat_eq p q ≡ false → clashes (joined (touch_of p w) (record { by = One q; written = x })) ≡ (w || x)
two_of p q w x n = ap (λ b. (w || x) && are_several (cond b (One p) Several)) n ∙ whole (w || x)
  where
    whole : (a : Bool) → (a && true) ≡ a
    whole true = refl
    whole false = refl

of_one : (p q : ℕ) (w r x y : Bool) → nat_eq p q ≡ false → true ≡ (x || y) →
    clashes (after_piece p w r (record { by = One q; written = x })) ≡ (clashes (record { by = One q; written = x }) || clash_then w r x y)
of_one p q w r false false n e = absurd (false≢true (sym e))
of_one p q true r true true n e = two_of p q true true n
of_one p q true r true false n e = two_of p q true true n
of_one p q true r false true n e = two_of p q true false n
of_one p q false true true y n e = two_of p q false true n
of_one p q false true false true n e = two_of p q false false n
of_one p q false false true y n e = refl
of_one p q false false false true n e = refl

clash_next : (p : ℕ) (by : Pieces) (w r x y : Bool) → are_some by ≡ (x || y) → AreOlder p by →
    clashes (after_piece p w r (record { by = by; written = x })) ≡ (clashes (record { by = by; written = x }) || clash_then w r x y)
clash_next p NoPiece w r x y e older = of_no_piece p w r x y e
clash_next p (One q) w r x y e older = of_one p q w r x y (older_test p q older) e
clash_next p Several w r x y e older = of_several p w r x y e

-- ---- the marks after a piece

some_with_one : (p : ℕ) (by : Pieces) → are_some (joined_pieces (One p) by) ≡ true
some_with_one p NoPiece = refl
some_with_one p (One q) = cases (nat_eq p q)
  where
    cases : (b : Bool) → are_some (cond b (One p) Several) ≡ true
    cases true = refl
    cases false = refl
some_with_one p Several = refl

older_with_one : (p : ℕ) (by : Pieces) → AreOlder (p + 1) (joined_pieces (One p) by)
older_with_one p NoPiece = let h : p < p + 1 = omega arith in h
older_with_one p (One q) = cases (nat_eq p q)
  where
    cases : (b : Bool) → AreOlder (p + 1) (cond b (One p) Several)
    cases true = let h : p < p + 1 = omega arith in h
    cases false = tt
older_with_one p Several = tt

older_still : (p : ℕ) (by : Pieces) → AreOlder p by → AreOlder (p + 1) by
older_still p NoPiece h = tt
older_still p (One q) h = let g : q < p + 1 = omega arith in g
older_still p Several h = tt

with_true : (a : Bool) → (a || true) ≡ true
with_true true = refl
with_true false = refl

reports_next : (p : ℕ) (w r : Bool) (done : Touched) (x y : Bool) → Reports p done x y → Reports (p + 1) (after_piece p w r done) (x || w) (y || r)
reports_next p true r done x y reports = record {
  written = sym (with_true x);
  some = some_with_one p done.by ∙ sym (ap (λ a. a || (y || r)) (with_true x));
  older = older_with_one p done.by;
}
reports_next p false true done x y reports = record {
  written = reports.written ∙ sym (no_more x);
  some = some_with_one p done.by ∙ sym (ap (λ a. (x || false) || a) (with_true y) ∙ with_true (x || false));
  older = older_with_one p done.by;
}
reports_next p false false done x y reports = record {
  written = reports.written ∙ sym (no_more x);
  some = reports.some ∙ sym (ap (λ a. a || (y || false)) (no_more x) ∙ ap (λ a. x || a) (no_more y));
  older = older_still p done.by reports.older;
}

clash_after : (arrays : Arrays) (p : ℕ) (ps : List Steps) (c : ℕ) (done : Touched) (x y : Bool) → Reports p done x y →
    clashes (done_after arrays p ps c done) ≡ (clashes done || overlaps arrays x y ps c)
clash_after arrays p [] c done x y reports = sym (no_more (clashes done))
clash_after arrays p (q ∷ ps) c done x y reports =
    let w = changed arrays (walk arrays q) c in
    let r = read arrays (walk arrays q) c in
    let rest = overlaps arrays (x || w) (y || r) ps c in
    clash_after arrays (p + 1) ps c (after_piece p w r done) (x || w) (y || r) (reports_next p w r done x y reports)
    ∙ ap (λ b. b || rest) (clash_next p done.by w r done.written y (reports.some ∙ ap (λ a. a || y) (sym reports.written)) reports.older)
    ∙ ap (λ a. (clashes done || clash_then w r a y) || rest) reports.written
    ∙ or_assoc (clashes done) (clash_then w r x y) rest

-- ---- a round, from an empty table

blank_at : (n i : ℕ) → i < n → touched_at (replicate n untouched) i ≡ untouched
blank_at n i h = get_or-replicate n i untouched untouched h

nothing_at : (arrays : Arrays) (t : Table) (c : ℕ) → HasPlaces arrays t → c < cells_of arrays → done_at arrays (cleared t) c ≡ untouched
nothing_at arrays t c places small =
    let there = array_there arrays c small in
    ap (λ x. joined x (touched_at (cleared t).everywhere (array_at arrays c))) (blank_at (length t.cells) c (let e = places.cells in omega arith))
    ∙ ap (joined untouched) (blank_at (length t.everywhere) (array_at arrays c) (let e = places.everywhere in omega arith))

pub cleared_places : (arrays : Arrays) (t : Table) → HasPlaces arrays t → HasPlaces arrays (cleared t)
cleared_places arrays t places = record {
  cells = length-replicate (length t.cells) untouched ∙ places.cells;
  everywhere = length-replicate (length t.everywhere) untouched ∙ places.everywhere;
  read = length-replicate (length t.read) untouched ∙ places.read;
  written = length-replicate (length t.written) untouched ∙ places.written;
}

cleared_is_clear : (arrays : Arrays) (t : Table) (c : ℕ) → HasPlaces arrays t → c < cells_of arrays → IsClear arrays (cleared t) c
cleared_is_clear arrays t c places small =
    let there = array_there arrays c small in
    let here = blank_at (length t.cells) c (let e = places.cells in omega arith) in
    let reads = blank_at (length t.read) (array_at arrays c) (let e = places.read in omega arith) in
    record {
      part = rw (here, reads) refl;
      clear = ap clashes (nothing_at arrays t c places small);
    }

-- A clash on a cell is an overlap of two pieces.
pub clash_is_overlap : (arrays : Arrays) (ps : List Steps) (t : Table) (c : ℕ) → HasPlaces arrays t → c < cells_of arrays →
    clashes (done_at arrays (with_pieces arrays 0 ps (cleared t)) c) ≡ overlaps arrays false false ps c
clash_is_overlap arrays ps t c places small =
    ap clashes (done_with_pieces arrays 0 ps (cleared t) c (cleared_places arrays t places) small
    ∙ ap (done_after arrays 0 ps c) (nothing_at arrays t c places small))
    ∙ clash_after arrays 0 ps c untouched false false (record { written = refl; some = refl; older = tt })

-- If nothing is suspect, no two pieces overlap.
pub no_overlap : (arrays : Arrays) (ps : List Steps) (t : Table) (c : ℕ) → HasPlaces arrays t → c < cells_of arrays →
    (with_pieces arrays 0 ps (cleared t)).suspect ≡ false → overlaps arrays false false ps c ≡ false
no_overlap arrays ps t c places small h =
    sym (clash_is_overlap arrays ps t c places small)
    ∙ (pieces_stay_clear arrays 0 ps (cleared t) c (cleared_places arrays t places) small (λ g. cleared_is_clear arrays t c places small) h).clear

-- ---- the least cell

first_same : (f g : ℕ → Bool) (i k : ℕ) → ((c : ℕ) → c < i + k → f c ≡ g c) → first_from f i k ≡ first_from g i k
first_same f g i zero h = refl
first_same f g i (suc k) h =
    ap (λ b. cond b (Some i) (first_from f (i + 1) k)) (h i (omega arith))
    ∙ ap (λ rest. cond (g i) (Some i) rest) (first_same f g (i + 1) k (λ c small. h c (omega arith)))

pub first_none : (f : ℕ → Bool) (i k : ℕ) → ((c : ℕ) → c < i + k → f c ≡ false) → first_from f i k ≡ None
first_none f i zero h = refl
first_none f i (suc k) h =
    ap (λ b. cond b (Some i) (first_from f (i + 1) k)) (h i (omega arith)) ∙ first_none f (i + 1) k (λ c small. h c (omega arith))

-- The least clash of a round, searched only if something is suspect, is the least overlap.
pub least_overlap : (arrays : Arrays) (ps : List Steps) (t : Table) → HasPlaces arrays t →
    cond (with_pieces arrays 0 ps (cleared t)).suspect
    (first_from (λ c. clashes (done_at arrays (with_pieces arrays 0 ps (cleared t)) c)) 0 (cells_of arrays)) None
    ≡ overlap arrays (cells_of arrays) ps
least_overlap arrays ps t places = cases (with_pieces arrays 0 ps (cleared t)).suspect refl
  where
    cases : (b : Bool) → (with_pieces arrays 0 ps (cleared t)).suspect ≡ b →
        cond b (first_from (λ c. clashes (done_at arrays (with_pieces arrays 0 ps (cleared t)) c)) 0 (cells_of arrays)) None
        ≡ overlap arrays (cells_of arrays) ps
    cases true e = first_same (λ c. clashes (done_at arrays (with_pieces arrays 0 ps (cleared t)) c)) (overlaps arrays false false ps) 0 (cells_of arrays)
        (λ c small. clash_is_overlap arrays ps t c places (omega arith))
    cases false e = sym (first_none (overlaps arrays false false ps) 0 (cells_of arrays)
        (λ c small. no_overlap arrays ps t c places (omega arith) e))

-- One cell of the search.
pub first_found : (f : ℕ → Bool) (i n : ℕ) → i < n → f i ≡ true → first_from f i (n - i) ≡ Some i
first_found f i n h e =
    ap (first_from f i) (let more : n - i ≡ suc (n - (i + 1)) = omega arith in more) ∙ ap (λ b. cond b (Some i) (first_from f (i + 1) (n - (i + 1)))) e

pub first_later : (f : ℕ → Bool) (i n : ℕ) → i < n → f i ≡ false → first_from f i (n - i) ≡ first_from f (i + 1) (n - (i + 1))
first_later f i n h e =
    ap (first_from f i) (let more : n - i ≡ suc (n - (i + 1)) = omega arith in more) ∙ ap (λ b. cond b (Some i) (first_from f (i + 1) (n - (i + 1)))) e

pub first_end : (f : ℕ → Bool) (i n : ℕ) → n ≤ i → first_from f i (n - i) ≡ None
first_end f i n h = ap (first_from f i) (let none : n - i ≡ 0 = omega arith in none)
