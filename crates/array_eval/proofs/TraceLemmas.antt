-- The trace of a work is what its steps write.
use Rattle.std.proofs.Common.{◌≡◌, ℕ, zero, suc, ◌+◌, ◌<◌, ◌≤◌, Bool, true, false, cond, List, [], ◌∷◌, ◌++◌, length, set, drop, get_or, drop-cons, add-one, ℤ, refl, sym, ap, ◌∙◌, arith, length-set}
use Rattle.std.specs.Prelude.{All, nat_lt, nat_eq, replicate}
use Rattle.std.proofs.lemmas.Bool.Decides.{nat_tests}
use Rattle.std.proofs.lemmas.List.{length-replicate}
use Rattle.array_meaning.specs.Stores.{Arrays, Store, Write, after}
use Rattle.array_meaning.specs.Steps.{Steps, followed_by, writes_of}
use Rattle.array_meaning.specs.Pieces.{lay, lays, last_writes, IsAbove}
use Rattle.array_meaning.proofs.BelowLemmas.{AreBelow, below_of}
use Rattle.array_meaning.proofs.StepLemmas.{writes_followed_by, length_after}
use Rattle.array_meaning.proofs.LastLemmas.{same_last, last_value_last}
use Rattle.array_eval.specs.Traces.{Trace, fresh, noted, noted_all, traced, marked_from, marked, marks_in}

pub cells_after : (ws : List Write) (t : Trace) → (noted_all ws t).cells ≡ after ws t.cells
cells_after [] t = refl
cells_after (w ∷ ws) t = cells_after ws (noted w.0 w.1 t)

pub noted_append : (a b : List Write) (t : Trace) → noted_all (a ++ b) t ≡ noted_all b (noted_all a t)
noted_append [] b t = refl
noted_append (w ∷ a) b t = noted_append a b (noted w.0 w.1 t)

-- Steps keep the number of cells.
pub length_traced : (arrays : Arrays) (steps : Steps) (t : Trace) → length (traced arrays steps t).cells ≡ length t.cells
length_traced arrays steps t = ap length (cells_after (writes_of arrays steps t.cells) t) ∙ length_after (writes_of arrays steps t.cells) t.cells

-- Steps keep the number of marks.
pub length_marks : (ws : List Write) (t : Trace) → length (noted_all ws t).marks ≡ length t.marks
length_marks [] t = refl
length_marks (w ∷ ws) t = length_marks ws (noted w.0 w.1 t) ∙ length-set t.marks w.0 true

-- Two steps in sequence.
pub traced_followed_by : (arrays : Arrays) (a b : Steps) (t : Trace) → traced arrays (followed_by a b) t ≡ traced arrays b (traced arrays a t)
traced_followed_by arrays a b t =
    ap (λ ws. noted_all ws t) (writes_followed_by arrays a b t.cells)
    ∙ noted_append (writes_of arrays a t.cells) (writes_of arrays b (after (writes_of arrays a t.cells) t.cells)) t
    ∙ ap (λ cells. noted_all (writes_of arrays b cells) (traced arrays a t)) (sym (cells_after (writes_of arrays a t.cells) t))

-- ---- what is marked

-- The marked cells from one on are above those before.
pub above_marked : (c i : ℕ) (cells : List ℤ) (marks : List Bool) → c < i → IsAbove c (marked_from i cells marks)
above_marked c i [] marks h = tt
above_marked c i (x ∷ cells) [] h = tt
above_marked c i (x ∷ cells) (true ∷ marks) h = (h, above_marked c (suc i) cells marks (omega (arith, h)))
above_marked c i (x ∷ cells) (false ∷ marks) h = above_marked c (suc i) cells marks (omega (arith, h))

lay_front : (c : ℕ) (v : ℤ) (ws : List Write) → IsAbove c ws → lay c v ws ≡ (c, v) ∷ ws
lay_front c v [] h = refl
lay_front c v (w ∷ ws) h = let below = h.0 in let test : nat_lt c w.0 ≡ true = grind (arith, nat_tests) in rw test refl

lay_behind : (i c : ℕ) (x v : ℤ) (ws : List Write) → i < c → lay c v ((i, x) ∷ ws) ≡ (i, x) ∷ lay c v ws
lay_behind i c x v ws h =
    let less : nat_lt c i ≡ false = grind (arith, nat_tests) in
    let same : nat_eq c i ≡ false = grind (arith, nat_tests) in
    rw (less, same) refl

lay_same : (i : ℕ) (x v : ℤ) (ws : List Write) → lay i v ((i, x) ∷ ws) ≡ (i, v) ∷ ws
lay_same i x v ws =
    let less : nat_lt i i ≡ false = grind (arith, nat_tests) in
    let same : nat_eq i i ≡ true = grind (arith, nat_tests) in
    rw (less, same) refl

-- One more write is laid over the marked cells.
noted_from : (i c : ℕ) (v : ℤ) (cells : List ℤ) (marks : List Bool) → c < length cells → length cells ≡ length marks →
    marked_from i (set cells c v) (set marks c true) ≡ lay (i + c) v (marked_from i cells marks)
noted_from i c v [] marks h e = absurd (omega (arith, h))
noted_from i c v (x ∷ cells) [] h e = absurd (omega (arith, e))
noted_from i zero v (x ∷ cells) (true ∷ marks) h e =
    let at : i + 0 ≡ i = omega arith in
    sym (ap (λ n. lay n v ((i, x) ∷ marked_from (suc i) cells marks)) at ∙ lay_same i x v (marked_from (suc i) cells marks))
noted_from i zero v (x ∷ cells) (false ∷ marks) h e =
    let at : i + 0 ≡ i = omega arith in
    sym (ap (λ n. lay n v (marked_from (suc i) cells marks)) at
    ∙ lay_front i v (marked_from (suc i) cells marks) (above_marked i (suc i) cells marks (omega arith)))
noted_from i (suc c) v (x ∷ cells) (true ∷ marks) h e =
    let at : suc i + c ≡ i + suc c = omega arith in
    ap (λ ws. (i, x) ∷ ws) (noted_from (suc i) c v cells marks (omega (arith, h)) (omega (arith, e))
    ∙ ap (λ n. lay n v (marked_from (suc i) cells marks)) at)
    ∙ sym (lay_behind i (i + suc c) x v (marked_from (suc i) cells marks) (omega arith))
noted_from i (suc c) v (x ∷ cells) (false ∷ marks) h e =
    let at : suc i + c ≡ i + suc c = omega arith in
    noted_from (suc i) c v cells marks (omega (arith, h)) (omega (arith, e))
    ∙ ap (λ n. lay n v (marked_from (suc i) cells marks)) at

pub none_marked : (i : ℕ) (cells : List ℤ) (n : ℕ) → marked_from i cells (replicate n false) ≡ []
none_marked i [] n = refl
none_marked i (x ∷ cells) zero = refl
none_marked i (x ∷ cells) (suc n) = none_marked (suc i) cells n

pub marked_after : (ws : List Write) (t : Trace) → AreBelow (length t.cells) ws → length t.cells ≡ length t.marks →
    marked (noted_all ws t) ≡ lays ws (marked t)
marked_after [] t h e = refl
marked_after (w ∷ ws) t h e =
    let cells = length-set t.cells w.0 w.1 in
    let marks = length-set t.marks w.0 true in
    let zero_more : 0 + w.0 ≡ w.0 = omega arith in
    marked_after ws (noted w.0 w.1 t) (rw cells h.1) (cells ∙ e ∙ sym marks)
    ∙ ap (lays ws) (noted_from 0 w.0 w.1 t.cells t.marks h.0 e ∙ ap (λ c. lay c w.1 (marked t)) zero_more)

-- An overlay is laid over the marked cells.
pub laid_marks : (ws : List Write) (before after : Trace) → after ≡ noted_all ws before → length before.cells ≡ length before.marks →
    All (λ w. w.0 < length before.cells) ws → marked after ≡ lays ws (marked before)
laid_marks ws before after e same below = ap marked e ∙ marked_after ws before (below_of (length before.cells) ws below) same

-- The marked cells at the end have the last values of the writes.
pub marked_last : (ws : List Write) (store : Store) → All (λ w. w.0 < length store) ws →
    last_writes (marked (noted_all ws (fresh store))) ≡ last_writes ws
marked_last ws store h =
    ap last_writes (marked_after ws (fresh store) (below_of (length store) ws h) (sym (length-replicate (length store) false)) ∙ ap (lays ws) (none_marked 0 store (length store)))
    ∙ same_last (last_writes ws) ws (last_value_last ws)

-- ---- an overlay of what is marked

one_marked : (i : ℕ) (x : ℤ) (xs : List ℤ) (m : Bool) (ms : List Bool) (o : List Write) →
    lays (marked_from i (x ∷ xs) (m ∷ ms)) o ≡ lays (marked_from (suc i) xs ms) (cond m (lay i x o) o)
one_marked i x xs true ms o = refl
one_marked i x xs false ms o = refl

-- The marked cells from one on, laid over an overlay: that cell, and then the rest.
pub marked_next : (i : ℕ) (cells : List ℤ) (marks : List Bool) (d : ℤ) (m : Bool) (o : List Write) → i < length cells → length cells ≡ length marks →
    lays (marked_from i (drop i cells) (drop i marks)) o
    ≡ lays (marked_from (i + 1) (drop (i + 1) cells) (drop (i + 1) marks)) (cond (get_or marks i m) (lay i (get_or cells i d) o) o)
marked_next i cells marks d m o h e =
    let inside : i < length marks = omega (arith, h, e) in
    ap (λ xs. lays (marked_from i xs (drop i marks)) o) (drop-cons cells i d h)
    ∙ ap (λ ms. lays (marked_from i (get_or cells i d ∷ drop (suc i) cells) ms) o) (drop-cons marks i m inside)
    ∙ one_marked i (get_or cells i d) (drop (suc i) cells) (get_or marks i m) (drop (suc i) marks) o
    ∙ rw add-one refl

marked_none : (n i : ℕ) (cells : List ℤ) (marks : List Bool) → length cells ≤ i → marked_from n (drop i cells) marks ≡ []
marked_none n zero [] marks h = refl
marked_none n (suc i) [] marks h = refl
marked_none n zero (x ∷ cells) marks h = absurd (omega (arith, h))
marked_none n (suc i) (x ∷ cells) marks h = marked_none n i cells marks (omega (arith, h))

-- After the last cell nothing is marked.
pub marked_end : (i : ℕ) (cells : List ℤ) (marks : List Bool) (o : List Write) → length cells ≤ i →
    lays (marked_from i (drop i cells) (drop i marks)) o ≡ o
marked_end i cells marks o h = ap (λ ws. lays ws o) (marked_none i i cells (drop i marks) h)

-- ---- how many are marked

pub marks_small : (marks : List Bool) → marks_in marks ≤ length marks
marks_small [] = omega arith
marks_small (true ∷ marks) = let le = marks_small marks in omega (arith, le)
marks_small (false ∷ marks) = let le = marks_small marks in omega (arith, le)

one_mark : (m : Bool) (marks : List Bool) → marks_in (m ∷ marks) ≡ cond m 1 0 + marks_in marks
one_mark true marks = omega arith
one_mark false marks = omega arith

-- The marks from one on: that mark, and then the rest.
pub marks_next : (i : ℕ) (marks : List Bool) (m : Bool) → i < length marks →
    marks_in (drop i marks) ≡ cond (get_or marks i m) 1 0 + marks_in (drop (i + 1) marks)
marks_next i marks m h = ap marks_in (drop-cons marks i m h) ∙ one_mark (get_or marks i m) (drop (suc i) marks) ∙ rw add-one refl

-- One more write adds at most one pair.
pub length_lay : (c : ℕ) (v : ℤ) (ws : List Write) → length (lay c v ws) ≤ 1 + length ws
length_lay c v [] = omega arith
length_lay c v (w ∷ ws) = cases (nat_lt c w.0) (nat_eq c w.0) (length_lay c v ws)
  where
    cases : (a b : Bool) → length (lay c v ws) ≤ 1 + length ws →
        length (cond a ((c, v) ∷ w ∷ ws) (cond b ((c, v) ∷ ws) (w ∷ lay c v ws))) ≤ 1 + length (w ∷ ws)
    cases true b ih = omega arith
    cases false true ih = omega arith
    cases false false ih = omega (arith, ih)
