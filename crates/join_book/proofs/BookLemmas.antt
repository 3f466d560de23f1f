-- Books: their slots, and what is merged of them.
use Rattle.std.proofs.Common.{◌≡◌, ◌≢◌, ◌⊎◌, inl, inr, ℕ, suc, zero, ◌+◌, add-one, ◌<◌, ◌≤◌, List, [], ◌∷◌, ◌++◌, length, map, Some, None, slice_get, slice_set, get_or, nat_lt, true, refl, sym, ◌∙◌, ap, subst, arith, All, replicate, option_map}
use borrow.Author.Tests.{ltb-true}
use Rattle.std.proofs.Math.ListN.{drop}
use Rattle.std.proofs.Math.Seq.{drop-cons}
use Rattle.std.proofs.lemmas.Bool.{cases_eq}
use Rattle.std.proofs.lemmas.List.{length-map, length-set, length-replicate, length-drop, drop-drop, map-set}
use Rattle.std.proofs.lemmas.Option.{slice_get-map, slice_get_within, slice_get_cases, slice_get_read, get_or_from_slice_get}
use Rattle.array_meaning.specs.Stores.{Write}
use Rattle.array_meaning.specs.Pieces.{merged, lays, last_writes}
use Rattle.array_meaning.proofs.LastLemmas.{lays_append}
use Rattle.array_meaning.proofs.MergeLemmas.{lays_last}
use Rattle.array_eval.specs.Traces.{Trace, marked, noted_all}
use Rattle.array_eval.proofs.TraceLemmas.{length_marks, cells_after}
use Rattle.array_meaning.proofs.StepLemmas.{length_after}
use Rattle.array_eval.specs.Overlays.{Laid}
use Rattle.array_meaning.specs.Stores.{arrays_of, cells_of}
use Rattle.array_meaning.specs.Touch.{walk}
use Rattle.array_meaning.specs.Names.{names_of, are_known}
use Rattle.array_meaning.proofs.InsideLemmas.{names_in, names_in_of}
use Rattle.array_meaning.proofs.KnownLemmas.{piece_inside}
use Rattle.array_jobs.specs.Works.{steps_of}
use Rattle.array_jobs.proofs.FitLemmas.{sized, known}
use Rattle.array_jobs.specs.Jobs.{JobParts, JobTree, job_of, IsFit, names_around}
use Rattle.array_jobs.specs.PieceParts.{PieceParts, piece_of_job}
use Rattle.join_book.specs.declared.place.Place.{Place}
use Rattle.join_book.specs.declared.place.Place.TheVariants as place
use Rattle.array_jobs.specs.Groups.{IsGroup, AreAlike}
use Rattle.join_book.specs.Books.{BookParts, Mark, Open, Filled, Failed, mark_of, IsKept, HaveCells, IsPlaceOf, open_book, marked_book, with_piece, filled_pieces}

-- ---- an element of a list that was written

pub at_other : {A : Type 0} → (xs : List A) (i k : ℕ) (x : A) → k ≢ i → slice_get (slice_set xs i x) k ≡ slice_get xs k
at_other [] i k x h = refl
at_other (y ∷ xs) zero zero x h = absurd (h refl)
at_other (y ∷ xs) zero (suc k) x h = refl
at_other (y ∷ xs) (suc i) zero x h = refl
at_other (y ∷ xs) (suc i) (suc k) x h = at_other xs i k x (λ e. h (ap suc e))

pub at_same : {A : Type 0} → (xs : List A) (i : ℕ) (x y : A) → slice_get (slice_set xs i x) i ≡ Some y → y ≡ x
at_same [] i x y h = cc
at_same (z ∷ xs) zero x y h = cc
at_same (z ∷ xs) (suc i) x y h = at_same xs i x y h

pub at_replicate : {A : Type 0} → (n i : ℕ) (x y : A) → slice_get (replicate n x) i ≡ Some y → y ≡ x
at_replicate zero i x y h = cc
at_replicate (suc n) zero x y h = cc
at_replicate (suc n) (suc i) x y h = at_replicate n i x y h

-- What `get` of a slice found.
pub got : {A : Type 0} → (xs known : List A) (i place : ℕ) (x : A) → true ≡ nat_lt i (length xs) → x ≡ get_or xs i x → xs ≡ known → i ≡ place →
    slice_get known place ≡ Some x
got xs known i place x inside is e f =
    let at : slice_get xs i ≡ Some x = slice_get_read xs (length xs) i x refl (ltb-true i (length xs) (sym inside)) is in cc

-- ---- slots

-- The jobs of a group, as models of the values in memory.
job_model : (jobs : List JobParts) (i : ℕ) (job : JobParts) → slice_get jobs i ≡ Some job → slice_get (map job_of jobs) i ≡ Some (job_of job)
job_model jobs i job at = slice_get-map job_of jobs i ∙ ap (option_map job_of) at

group_alike : (jobs : List JobParts) → IsGroup (map job_of jobs) → (i k : ℕ) (a b : JobParts) → slice_get jobs i ≡ Some a → slice_get jobs k ≡ Some b →
    AreAlike (job_of a) (job_of b)
group_alike jobs group i k a b at there = group.alike i k (job_of a) (job_of b) (job_model jobs i a at) (job_model jobs k b there)

group_place : (jobs : List JobParts) → IsGroup (map job_of jobs) → (i : ℕ) (job : JobParts) → slice_get jobs i ≡ Some job → job.place ≡ i
group_place jobs group i job at = group.places i (job_of job) (job_model jobs i job at)

pub group_some : (jobs : List JobParts) → IsGroup (map job_of jobs) → 0 < length jobs
group_some jobs group = let some_job = group.some in let same = length-map jobs job_of in omega arith

-- The model of a book.
abbrev pub book_model : List JobParts → List Place → BookParts
book_model jobs places = record { jobs = jobs; places = map mark_of places }

-- Each job names its index.
abbrev pub NamePlaces : List JobParts → Type 0
NamePlaces jobs = (i : ℕ) (job : JobParts) → slice_get jobs i ≡ Some job → job.place ≡ i

-- A job's index is the one that it names.
pub own_place : (jobs : List JobParts) (places : List Mark) → IsGroup (map job_of jobs) → (i : ℕ) (job : JobParts) →
    IsPlaceOf (record { jobs = jobs; places = places }) i job → i ≡ job.place
own_place jobs places group i job is = sym (group_place jobs group i is.0 is.1) ∙ ap (λ tree. tree.place) is.2

-- The same for a book that has this model.
pub only_place : (book : BookParts) (jobs : List JobParts) (places : List Place) → book_model jobs places ≡ book → NamePlaces jobs → (job : JobParts) →
    (i : ℕ) → IsPlaceOf book i job → i ≡ job.place
only_place book jobs places e named job i is =
    sym (subst NamePlaces (ap (λ b. b.jobs) e) named i is.0 is.1) ∙ ap (λ tree. tree.place) is.2

-- The jobs' stores have the same size.
pub same_size : (jobs : List JobParts) → IsGroup (map job_of jobs) → ((i : ℕ) (job : JobParts) → slice_get jobs i ≡ Some job → IsFit (job_of job)) →
    (i k : ℕ) (a b : JobParts) → slice_get jobs i ≡ Some a → slice_get jobs k ≡ Some b → length a.store ≡ length b.store
same_size jobs group fit i k a b at there =
    (fit i a at).cells ∙ ap (λ ds. cells_of (arrays_of ds)) (group_alike jobs group i k a b at there).arrays ∙ sym (fit k b there).cells

-- No slot of a new book is filled.
pub kept_open : (jobs : List JobParts) (places : List Place) → IsGroup (map job_of jobs) → ((i : ℕ) (job : JobParts) → slice_get jobs i ≡ Some job → IsFit (job_of job)) →
    places ≡ replicate (length jobs) place.Open → IsKept jobs places
kept_open jobs places group fit e = record {
  some = group_some jobs group;
  fit = fit;
  named = group_place jobs group;
  cells = same_size jobs group fit;
  each = ap length e ∙ length-replicate (length jobs) place.Open;
  filled = λ i job written own is. let same = at_replicate (length jobs) i place.Open (place.Filled written) (subst (λ (ps : List Place). slice_get ps i ≡ Some (place.Filled written)) e is) in cc;
}

-- The model of a new book.
pub open_model : (jobs : List JobParts) (places : List Place) → places ≡ replicate (length jobs) place.Open → book_model jobs places ≡ open_book jobs
open_model jobs places e =
    let f : List Mark → BookParts = λ ms. record { jobs = jobs; places = ms } in
    ap f (ap (map mark_of) e ∙ map_replicate (length jobs) place.Open)
  where
    map_replicate : (n : ℕ) (p : Place) → map mark_of (replicate n p) ≡ replicate n (mark_of p)
    map_replicate zero p = refl
    map_replicate (suc n) p = ap (λ ms. mark_of p ∷ ms) (map_replicate n p)

-- A piece of the slot's own job is put into the slot.
pub kept_filled : (jobs : List JobParts) (places : List Place) (i : ℕ) (written : Laid) → IsKept jobs places →
    ((own : JobParts) → slice_get jobs i ≡ Some own → written.pairs ≡ piece_of_job (job_of own)) →
    IsKept jobs (slice_set places i (place.Filled written))
kept_filled jobs places i written kept right = record {
  some = kept.some;
  fit = kept.fit;
  named = kept.named;
  cells = kept.cells;
  each = length-set places i (place.Filled written) ∙ kept.each;
  filled = λ k job w own is. first_or_other (cases_eq k i) job w own is;
}
  where
    first_or_other : {k : ℕ} → (k ≡ i) ⊎ (k ≢ i) → (job : JobParts) (w : Laid) → slice_get jobs k ≡ Some job →
        slice_get (slice_set places i (place.Filled written)) k ≡ Some (place.Filled w) → w.pairs ≡ piece_of_job (job_of job)
    first_or_other {k} (inl e) job w own is =
        let P : ℕ → Type 0 = λ n. slice_get (slice_set places i (place.Filled written)) n ≡ Some (place.Filled w) in
        let Q : ℕ → Type 0 = λ n. slice_get jobs n ≡ Some job in
        let same = at_same places i (place.Filled written) (place.Filled w) (subst P e is) in
        let is_right = right job (subst Q e own) in cc
    first_or_other {k} (inr ne) job w own is = kept.filled k job w own (sym (at_other places i k (place.Filled written) ne) ∙ is)

pub kept_failed : (jobs : List JobParts) (places : List Place) (i : ℕ) → IsKept jobs places → IsKept jobs (slice_set places i place.Failed)
kept_failed jobs places i kept = record {
  some = kept.some;
  fit = kept.fit;
  named = kept.named;
  cells = kept.cells;
  each = length-set places i place.Failed ∙ kept.each;
  filled = λ k job w own is. first_or_other (cases_eq k i) job w own is;
}
  where
    first_or_other : {k : ℕ} → (k ≡ i) ⊎ (k ≢ i) → (job : JobParts) (w : Laid) → slice_get jobs k ≡ Some job →
        slice_get (slice_set places i place.Failed) k ≡ Some (place.Filled w) → w.pairs ≡ piece_of_job (job_of job)
    first_or_other {k} (inl e) job w own is =
        let P : ℕ → Type 0 = λ n. slice_get (slice_set places i place.Failed) n ≡ Some (place.Filled w) in
        let same = at_same places i place.Failed (place.Filled w) (subst P e is) in cc
    first_or_other {k} (inr ne) job w own is = kept.filled k job w own (sym (at_other places i k place.Failed ne) ∙ is)

-- An element of a list with one replaced is the new one, or was there before.
set_cases : {A : Type 0} → (P : ℕ → A → Type 0) (xs : List A) (i k : ℕ) (x y : A) → (k ≡ i → P k x) →
    (k ≢ i → slice_get xs k ≡ Some y → P k y) → slice_get (slice_set xs i x) k ≡ Some y → P k y
set_cases P xs i k x y new old at = found (cases_eq k i)
  where
    found : (k ≡ i) ⊎ (k ≢ i) → P k y
    found (inl e) =
        let same : y ≡ x = at_same xs i x y (subst (λ (n : ℕ). slice_get (slice_set xs i x) n ≡ Some y) e at) in
        subst (P k) (sym same) (new e)
    found (inr ne) = old ne (sym (at_other xs i k x ne) ∙ at)

-- A piece is put in with its job, which names the slot and starts from as many cells as the slot's own job.
pub kept_put : (jobs : List JobParts) (places : List Place) (i : ℕ) (own job : JobParts) (written : Laid) → IsKept jobs places → slice_get jobs i ≡ Some own →
    job.place ≡ i → length own.store ≡ length job.store → IsFit (job_of job) → written.pairs ≡ piece_of_job (job_of job) →
    IsKept (slice_set jobs i job) (slice_set places i (place.Filled written))
kept_put jobs places i own job written kept there at_place size is_fit right = record {
  some = let n = length-set jobs i job in let m = kept.some in omega arith;
  fit = λ k a at. set_cases (λ n j. IsFit (job_of j)) jobs i k job a (λ e. is_fit) (λ ne was. kept.fit k a was) at;
  named = λ k a at. set_cases (λ n j. j.place ≡ n) jobs i k job a (λ e. at_place ∙ sym e) (λ ne was. kept.named k a was) at;
  cells = λ k l a b at there. as_many k a at ∙ sym (as_many l b there);
  each = length-set places i (place.Filled written) ∙ kept.each ∙ sym (length-set jobs i job);
  filled = λ k a w at is. set_cases (λ n p. (w : Laid) → p ≡ place.Filled w → w.pairs ≡ piece_of_job (job_of a)) places i k (place.Filled written) (place.Filled w)
      (λ e v same.
      let is_job : a ≡ job = at_same jobs i job a (subst (λ (n : ℕ). slice_get (slice_set jobs i job) n ≡ Some a) e at) in
      let is_written : written ≡ v = cc in
      ap (λ (x : Laid). x.pairs) (sym is_written) ∙ right ∙ ap (λ j. piece_of_job (job_of j)) (sym is_job))
      (λ ne was v same. let is_written : w ≡ v = cc in
      ap (λ (x : Laid). x.pairs) (sym is_written) ∙ kept.filled k a w (sym (at_other jobs i k job ne) ∙ at) was)
      is w refl;
}
  where
    as_many : (k : ℕ) (a : JobParts) → slice_get (slice_set jobs i job) k ≡ Some a → length a.store ≡ length own.store
    as_many k a at = set_cases (λ n j. length j.store ≡ length own.store) jobs i k job a (λ e. sym size) (λ ne was. kept.cells k i a own was there) at

-- The model of the book with this piece and its job.
pub put_model : (jobs : List JobParts) (places : List Place) (book : BookParts) (i : ℕ) (written : Laid) (piece : PieceParts) → book_model jobs places ≡ book → i ≡ piece.job.place →
    book_model (slice_set jobs i piece.job) (slice_set places i (place.Filled written)) ≡ with_piece book piece
put_model jobs places book i written piece e at =
    ap (λ ms. record { jobs = slice_set jobs i piece.job; places = ms }) (map-set mark_of places i (place.Filled written))
    ∙ ap (λ n. record { jobs = slice_set jobs n piece.job; places = slice_set (map mark_of places) n Filled }) at
    ∙ ap (λ b. with_piece b piece) e

-- ---- the model of slots

pub marked_at : (places : List Place) (i : ℕ) (p : Place) → slice_get places i ≡ Some p → slice_get (map mark_of places) i ≡ Some (mark_of p)
marked_at places i p e = slice_get-map mark_of places i ∙ ap (option_map mark_of) e

-- A slot that is read, in the model.
pub seen_mark : (places xs : List Place) (marks : List Mark) (i : ℕ) (p : Place) → map mark_of places ≡ marks → xs ≡ places → i < length xs →
    p ≡ get_or xs i p → slice_get marks i ≡ Some (mark_of p)
seen_mark places xs marks i p m e h is =
    let at = marked_at xs i p (slice_get_read xs (length xs) i p refl h is) in
    let same : map mark_of xs ≡ marks = ap (map mark_of) e ∙ m in
    let P : List Mark → Type 0 = λ ms. slice_get ms i ≡ Some (mark_of p) in subst P same at

-- A slot that is written, in the model.
pub marked_same : (jobs : List JobParts) (places : List Place) (book : BookParts) (i k : ℕ) (p : Place) →
    book_model jobs places ≡ book → i ≡ k → book_model jobs (slice_set places i p) ≡ marked_book book k (mark_of p)
marked_same jobs places book i k p e at =
    let f : List Mark → BookParts = λ ms. record { jobs = jobs; places = ms } in
    ap f (map-set mark_of places i p) ∙ ap (λ n. marked_book (book_model jobs places) n (mark_of p)) at ∙ ap (λ b. marked_book b k (mark_of p)) e

-- ---- merging

-- All of the lists in sequence.
abbrev joined : List (List Write) → List Write
joined [] = []
joined (piece ∷ more) = piece ++ joined more

merged_joined : (pieces : List (List Write)) (laid : List Write) → merged pieces laid ≡ lays (joined pieces) laid
merged_joined [] laid = refl
merged_joined (piece ∷ more) laid = merged_joined more (lays piece laid) ∙ sym (lays_append piece (joined more) laid)

-- Each cell occurs once in the merged writes.
pub merged_last : (pieces : List (List Write)) → last_writes (merged pieces []) ≡ merged pieces []
merged_last pieces = ap last_writes (merged_joined pieces []) ∙ lays_last (joined pieces) [] tt ∙ sym (merged_joined pieces [])

-- A job's writes lie inside its store.
pub piece_below : (job : JobTree) → IsFit job → All (λ w. w.0 < length job.store) (piece_of_job job)
piece_below job fit =
    let arrays = arrays_of job.arrays in
    let visited : are_known (names_in arrays) (walk arrays (steps_of job.work job.vars)) ≡ true
    = rw (names_in_of job.arrays) (known arrays (names_of job.arrays) (names_around job.vars) job.work job.vars fit.known_names) in
    rw fit.cells (piece_inside arrays (sized job fit).each (steps_of job.work job.vars) job.store visited fit.indices)

-- The pieces that are still to be merged, from an index on.
abbrev pub pieces_from : ℕ → List JobParts → List Place → List (List Write)
pieces_from i jobs places = filled_pieces (drop i jobs) (map mark_of (drop i places))

-- A slot that isn't filled adds nothing.
unfilled : (jobs : List JobParts) (p : Place) (places : List Place) → (mark_of p ≡ Filled → ⊥) → 1 ≤ length jobs →
    filled_pieces jobs (map mark_of (p ∷ places)) ≡ filled_pieces (drop 1 jobs) (map mark_of places)
unfilled [] p places other h = absurd (omega (arith, h))
unfilled (job ∷ jobs) place.Open places other h = refl
unfilled (job ∷ jobs) (place.Filled written) places other h = absurd (other refl)
unfilled (job ∷ jobs) place.Failed places other h = refl

pub next_unfilled : (jobs : List JobParts) (places : List Place) (i : ℕ) (p : Place) → length places ≡ length jobs → i < length places →
    p ≡ get_or places i p → (mark_of p ≡ Filled → ⊥) → pieces_from i jobs places ≡ pieces_from (i + 1) jobs places
next_unfilled jobs places i p e h is other =
    ap (λ ps. filled_pieces (drop i jobs) (map mark_of ps)) (drop-cons places i p h ∙ ap (λ q. q ∷ drop (suc i) places) (sym is))
    ∙ unfilled (drop i jobs) p (drop (suc i) places) other (simp length-drop (omega (arith, e, h)))
    ∙ ap (λ js. filled_pieces js (map mark_of (drop (suc i) places))) (drop-drop 1 i jobs)
    ∙ rw add-one refl

-- A filled slot adds its job's writes.
pub next_filled : (jobs : List JobParts) (places : List Place) (i : ℕ) (written : Laid) (job : JobParts) → IsKept jobs places → i < length places →
    place.Filled written ≡ get_or places i (place.Filled written) → slice_get jobs i ≡ Some job →
    pieces_from i jobs places ≡ written.pairs ∷ pieces_from (i + 1) jobs places
next_filled jobs places i written job kept h is own =
    let here : place.Filled written ∷ drop (suc i) places ≡ drop i places = sym (drop-cons places i (place.Filled written) h ∙ ap (λ q. q ∷ drop (suc i) places) (sym is)) in
    let mine : job ∷ drop (suc i) jobs ≡ drop i jobs = sym (drop-cons jobs i job (slice_get_within jobs i job own) ∙ ap (λ q. q ∷ drop (suc i) jobs) (get_or_from_slice_get jobs i job job own)) in
    let same = kept.filled i job written own (slice_get_read places (length places) i (place.Filled written) refl h is) in
    rw (← here, ← mine, same, add-one) refl

-- In a full book without a failed slot, every piece is merged.
pub all_filled : (jobs : List JobParts) (marks : List Mark) → length marks ≡ length jobs →
    ((i : ℕ) → slice_get marks i ≡ Some Open → ⊥) → ((i : ℕ) → slice_get marks i ≡ Some Failed → ⊥) →
    filled_pieces jobs marks ≡ map (λ job. piece_of_job (job_of job)) jobs
all_filled [] marks e full fine = refl
all_filled (job ∷ jobs) [] e full fine = absurd (omega (arith, e))
all_filled (job ∷ jobs) (Open ∷ marks) e full fine = absurd (full zero refl)
all_filled (job ∷ jobs) (Filled ∷ marks) e full fine =
    ap (λ more. piece_of_job (job_of job) ∷ more) (all_filled jobs marks (omega (arith, e)) (λ i. full (suc i)) (λ i. fine (suc i)))
all_filled (job ∷ jobs) (Failed ∷ marks) e full fine = absurd (fine zero refl)

-- ---- merging a slot's piece into a store

-- The writes of a filled slot lie inside a store of the jobs' size.
pub filled_below : (jobs : List JobParts) (places : List Place) (i : ℕ) (written : Laid) (job : JobParts) (n : ℕ) → IsKept jobs places →
    slice_get jobs i ≡ Some job → slice_get places i ≡ Some (place.Filled written) → length job.store ≡ n → All (λ w. w.0 < n) written.pairs
filled_below jobs places i written job n kept own at cells =
    let all = piece_below (job_of job) (kept.fit i job own) in
    let P : ℕ → Type 0 = λ m. All (λ w. w.0 < m) written.pairs in
    subst P cells (rw (kept.filled i job written own at) all)

-- The state of a store while a book is merged into it, with the slots before this one done.
pub record IsMerging (book : BookParts) (places : List Place) (i : ℕ) (store first : Trace) : Type 0 where
  pub cells : length store.cells ≡ length first.cells
  pub marks : length store.marks ≡ length store.cells
  pub rest : merged (pieces_from i book.jobs places) (marked store) ≡ merged (filled_pieces book.jobs book.places) (marked first)

pub begins : (book : BookParts) (jobs : List JobParts) (places xs : List Place) (first : Trace) → book_model jobs places ≡ book → xs ≡ places →
    length first.marks ≡ length first.cells → IsMerging book xs 0 first first
begins book jobs places xs first e f marks = record {
  cells = refl;
  marks = marks;
  rest = ap (λ ps. merged (filled_pieces book.jobs ps) (marked first)) (ap (map mark_of) f ∙ ap (λ b. b.places) e);
}

-- A filled slot is merged.
pub merge_filled : (jobs : List JobParts) (places : List Place) (i : ℕ) (written : Laid) (before after first : Trace) → IsKept jobs places →
    HaveCells (book_model jobs places) (length first.cells) → i < length places → place.Filled written ≡ get_or places i (place.Filled written) →
    after ≡ noted_all written.pairs before →
    (All (λ w. w.0 < length before.cells) written.pairs → marked after ≡ lays written.pairs (marked before)) →
    IsMerging (book_model jobs places) places i before first → IsMerging (book_model jobs places) places (i + 1) after first
merge_filled jobs places i written before after first kept have h is now laid merging = found (slice_get_cases jobs i).1
  where
    found : ((job : JobParts) × (i < length jobs) × (slice_get jobs i ≡ Some job) × (get_or jobs i job ≡ job)) ⊎ ((length jobs ≤ i) × (slice_get jobs i ≡ None)) →
        IsMerging (book_model jobs places) places (i + 1) after first
    found (inr past) = let out = past.0 in let each = kept.each in absurd (omega arith)
    found (inl job) =
        let at = slice_get_read places (length places) i (place.Filled written) refl h is in
        let below = filled_below jobs places i written job.0 (length before.cells) kept job.2 at (have i job.0 job.2 ∙ sym merging.cells) in
        let next = next_filled jobs places i written job.0 kept h is job.2 in
        let lays_on : marked (noted_all written.pairs before) ≡ lays written.pairs (marked before) = ap marked (sym now) ∙ laid below in
        let same_cells : length (noted_all written.pairs before).cells ≡ length before.cells = ap length (cells_after written.pairs before) ∙ length_after written.pairs before.cells in
        rw now (record {
          cells = same_cells ∙ merging.cells;
          marks = length_marks written.pairs before ∙ merging.marks ∙ sym same_cells;
          rest = rw lays_on (sym (ap (λ ps. merged ps (marked before)) next) ∙ merging.rest);
        })

-- A slot that isn't filled changes nothing.
pub merge_unfilled : (jobs : List JobParts) (places : List Place) (i : ℕ) (p : Place) (before after first : Trace) → IsKept jobs places →
    i < length places → p ≡ get_or places i p → ((written : Laid) → p ≡ place.Filled written → ⊥) → after ≡ before →
    IsMerging (book_model jobs places) places i before first → IsMerging (book_model jobs places) places (i + 1) after first
merge_unfilled jobs places i p before after first kept h is other now merging = rw now (record {
  cells = merging.cells;
  marks = merging.marks;
  rest = ap (λ ps. merged ps (marked before)) (sym (next_unfilled jobs places i p kept.each h is (unmarked p other))) ∙ merging.rest;
})
  where
    unmarked : (p : Place) → ((written : Laid) → p ≡ place.Filled written → ⊥) → mark_of p ≡ Filled → ⊥
    unmarked place.Open other m = cc
    unmarked (place.Filled written) other m = other written refl
    unmarked place.Failed other m = cc

-- At the end nothing is left to merge.
pub ends : (book : BookParts) (xs : List Place) (i : ℕ) (store first : Trace) → length xs ≤ i → IsMerging book xs i store first →
    marked store ≡ merged (filled_pieces book.jobs book.places) (marked first)
ends book xs i store first h merging = sym (ap (λ ps. merged ps (marked store)) (none_left (drop i book.jobs) (drop i xs) (simp length-drop (omega (arith, h))))) ∙ merging.rest
  where
    none_left : (jobs : List JobParts) (places : List Place) → length places ≤ 0 → filled_pieces jobs (map mark_of places) ≡ []
    none_left [] places h = refl
    none_left (job ∷ jobs) [] h = refl
    none_left (job ∷ jobs) (p ∷ places) h = absurd (omega (arith, h))

-- From a store without a mark, the result is the merged writes.
pub merged_from : (book : BookParts) (store first : Trace) → marked first ≡ [] → marked store ≡ merged (filled_pieces book.jobs book.places) (marked first) →
    marked store ≡ merged (filled_pieces book.jobs book.places) []
merged_from book store first none e = e ∙ ap (merged (filled_pieces book.jobs book.places)) none

-- A property of a book's model and slots holds for equal ones.
pub carried : (jobs : List JobParts) (places : List Place) (book : BookParts) (xs : List Place) (P : BookParts → List Place → Type 0) →
    book_model jobs places ≡ book → xs ≡ places → P (book_model jobs places) places → P book xs
carried jobs places book xs P e f h = subst (λ (ps : List Place). P book ps) (sym f) (subst (λ (b : BookParts). P b places) e h)
