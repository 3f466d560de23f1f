-- The slots of a pipeline hold the writes of its pieces.
use Rattle.std.proofs.Common.{◌≡◌, inl, inr, ℕ, zero, suc, ◌+◌, ◌*◌, ◌<◌, List, [], ◌∷◌, ◌++◌, length, map, take, Some, refl, sym, ap, ◌∙◌, arith, get_or, add-one}
use Rattle.std.specs.Prelude.{slice_get, slice_index_or}
use Rattle.std.specs.Option.{option_map}
use Rattle.std.proofs.lemmas.List.{length-append, map-append}
use Rattle.std.proofs.lemmas.Option.{slice_get-map, slice_get_read, get_or_from_slice_get, same_Some}
use Rattle.array_meaning.specs.Stores.{Store, arrays_of, after}
use Rattle.array_meaning.specs.Steps.{Steps}
use Rattle.array_meaning.specs.Pieces.{piece_of}
use Rattle.array_meaning.proofs.StepLemmas.{after_append}
use Rattle.array_eval.specs.Traces.{Trace, fresh, noted_all}
use Rattle.array_eval.proofs.TraceLemmas.{cells_after}
use Rattle.array_jobs.specs.Jobs.{JobParts, JobTree, job_of}
use Rattle.array_jobs.specs.PieceParts.{piece_of_job}
use Rattle.step_eval.specs.Nests.{NestedParts, NestedTree, nested_of, phases_of, rounds_of, jobs_in}
use Rattle.step_eval.specs.Phases.{round_at, steps_of_job}
use Rattle.step_eval.proofs.PhaseLemmas.{jobs_are_rounds, job_parts}
use Rattle.phase_order.specs.Crossings.{entry_at, IsPiece}
use Rattle.phase_order.specs.Pipes.{concat, written_before}
use Rattle.phase_order.proofs.Rows.{entry_within}
use Rattle.phase_order.proofs.Entries.{pieces_are_piped}
use Rattle.pipe_sched.specs.declared.slot.Slot.{Slot}
use Rattle.pipe_sched.specs.declared.slot.Slot.TheVariants as slot
use Rattle.pipe_sched.specs.Slots.{Filled, PipeParts, phases_in, IsAt, IsClear}
use Rattle.pipe_sched.specs.Pipes.{piped_writes, piped_store, IsJobAt}
use Rattle.pipe_sched.specs.Inside.{mark_of, IsRight, IsKept, written_in, column, columns}
use Rattle.pipe_sched.proofs.Kept.{pipe_model, held_at}

-- ---- the writes of a piece in a pipeline

pub round_is : (rounds : List (List Steps)) (k : ℕ) → get_or rounds k [] ≡ round_at rounds k
round_is [] k = refl
round_is (round ∷ more) zero = refl
round_is (round ∷ more) (suc k) = round_is more k

pub job_is_piece : (nested : NestedTree) (k : ℕ) (store : Store) (j : ℕ) (job : JobTree) → k < phases_of nested.construct →
    slice_get (jobs_in nested k store) j ≡ Some job → IsPiece (rounds_of nested.construct nested.vars) j k (steps_of_job job)
job_is_piece nested k store j job less own =
    ap (λ round. slice_get round j) (round_is (rounds_of nested.construct nested.vars) k ∙ sym (jobs_are_rounds nested k store less))
    ∙ slice_get-map steps_of_job (jobs_in nested k store) j
    ∙ ap (option_map steps_of_job) own

-- The job of a member in a phase writes the pipeline's entry for it.
pub piped_piece : (nested : NestedTree) (j k : ℕ) (job : JobTree) → k < phases_of nested.construct → IsJobAt nested j k job →
    entry_at (piped_writes nested) j k ≡ Some (piece_of_job job)
piped_piece nested j k job less own =
    let arrays = arrays_of nested.arrays in
    let rounds = rounds_of nested.construct nested.vars in
    let store = piped_store nested j k in
    let parts = job_parts nested k store j job own in
    let same : piece_of_job job ≡ piece_of arrays (steps_of_job job) store
    = ap (λ ds. piece_of (arrays_of ds) (steps_of_job job) job.store) parts.its_arrays ∙ ap (piece_of arrays (steps_of_job job)) parts.its_store in
    pieces_are_piped arrays nested.store [] rounds j k (steps_of_job job) (job_is_piece nested k store j job less own)
    ∙ ap Some (sym same)

-- ---- the writes in slots

right_entry : (nested : NestedTree) (j k : ℕ) (own : Slot) → k < phases_of nested.construct → IsRight nested j k own → mark_of own ≡ Filled →
    entry_at (piped_writes nested) j k ≡ Some (written_in own)
right_entry nested j k slot.Waiting less right e = absurd (cc)
right_entry nested j k slot.Barred less right e = absurd (cc)
right_entry nested j k (slot.Out job) less right e = absurd (cc)
right_entry nested j k (slot.Filled job written) less right e = piped_piece nested j k (job_of job) less right.0 ∙ ap Some (sym right.1)
right_entry nested j k (slot.Lost job) less right e = absurd (cc)

-- A filled slot holds the pipeline's entry for its piece.
pub filled_entry : (nested : NestedParts) (slots : List Slot) (j k : ℕ) → IsKept nested slots → IsAt (phases_in nested) (map mark_of slots) j k Filled →
    entry_at (piped_writes (nested_of nested)) j k ≡ Some (written_in (slice_index_or slots (j * phases_in nested + k) slot.Barred))
filled_entry nested slots j k kept filled =
    let place = j * phases_in nested + k in
    let held = held_at slots place Filled filled.1 in
    right_entry (nested_of nested) j k held.0 filled.0 (kept.right j k held.0 filled.0 held.1) held.2
    ∙ ap (λ own. Some (written_in own)) (sym (get_or_from_slice_get slots place held.0 slot.Barred held.1))

take_one_more : {A : Type 0} (xs : List A) (m : ℕ) (x : A) → slice_get xs m ≡ Some x → take (suc m) xs ≡ take m xs ++ x ∷ []
take_one_more [] m x e = absurd (cc)
take_one_more (y ∷ xs) zero x e = ap (λ z. z ∷ []) (same_Some y x e)
take_one_more (y ∷ xs) (suc m) x e = ap (λ l. y ∷ l) (take_one_more xs m x e)

-- The first members of a phase, if all are filled.
pub column_is : (nested : NestedParts) (slots : List Slot) (k m : ℕ) → IsKept nested slots →
    ((j : ℕ) → j < m → IsAt (phases_in nested) (map mark_of slots) j k Filled) →
    column (phases_in nested) slots k m ≡ take m (get_or (piped_writes (nested_of nested)) k [])
column_is nested slots k zero kept filled = refl
column_is nested slots k (suc m) kept filled =
    let row = get_or (piped_writes (nested_of nested)) k [] in
    let own = written_in (slice_index_or slots (m * phases_in nested + k) slot.Barred) in
    ap (λ l. l ++ own ∷ []) (column_is nested slots k m kept (λ j less. filled j (omega arith)))
    ∙ sym (take_one_more row m own (filled_entry nested slots m k kept (filled m (omega arith))))

pub column_length : (n : ℕ) (slots : List Slot) (k m : ℕ) → length (column n slots k m) ≡ m
column_length n slots k zero = refl
column_length n slots k (suc m) =
    let less = column_length n slots k m in
    let whole = length-append (column n slots k m) (written_in (slice_index_or slots (m * n + k) slot.Barred) ∷ []) in
    omega (arith, less, whole)

rows_one_more : {A : Type 0} (rows : List (List A)) (k : ℕ) → k < length rows → take (suc k) rows ≡ take k rows ++ get_or rows k [] ∷ []
rows_one_more [] k less = absurd (omega arith)
rows_one_more (row ∷ rows) zero less = refl
rows_one_more (row ∷ rows) (suc k) less = ap (λ l. row ∷ l) (rows_one_more rows k (omega arith))

-- The first phases, if their first members are filled.
pub columns_are : (nested : NestedParts) (slots : List Slot) (m k : ℕ) → IsKept nested slots → 0 < m →
    ((j h : ℕ) → j < m → h < k → IsAt (phases_in nested) (map mark_of slots) j h Filled) →
    columns (phases_in nested) slots m k ≡ map (take m) (take k (piped_writes (nested_of nested)))
columns_are nested slots m zero kept some filled = refl
columns_are nested slots m (suc k) kept some filled =
    let rows = piped_writes (nested_of nested) in
    let row = get_or rows k [] in
    let there = entry_within rows 0 k (written_in (slice_index_or slots (0 * phases_in nested + k) slot.Barred)) (filled_entry nested slots 0 k kept (filled 0 k some (omega arith))) in
    ap (λ l. l ++ column (phases_in nested) slots k m ∷ []) (columns_are nested slots m k kept some (λ j h less small. filled j h less (omega arith)))
    ∙ ap (λ c. map (take m) (take k rows) ++ c ∷ []) (column_is nested slots k m kept (λ j less. filled j k less (omega arith)))
    ∙ sym (map-append (take m) (take k rows) (row ∷ []))
    ∙ ap (map (take m)) (sym (rows_one_more rows k there))

-- ---- the store of a piece before which all are filled

pub seen_is : (nested : NestedParts) (slots : List Slot) (j k : ℕ) → IsKept nested slots → k < phases_in nested → IsClear (phases_in nested) (map mark_of slots) j k →
    concat (concat (columns (phases_in nested) slots (suc j) k)) ++ concat (column (phases_in nested) slots k j)
    ≡ written_before (piped_writes (nested_of nested)) j k
seen_is nested slots j k kept less clear =
    let n = phases_in nested in
    let rows = piped_writes (nested_of nested) in
    let done = take j (get_or rows k []) in
    let own = column_is nested slots k j kept (λ i lower. clear i k (record { member = omega arith; phase = omega arith; other = inl lower })) in
    let before = columns_are nested slots (suc j) k kept (omega arith)
    (λ i h lower earlier. clear i h (record { member = omega arith; phase = omega arith; other = inr earlier })) in
    let count : j ≡ length done = sym (column_length n slots k j) ∙ ap length own in
    ap (λ l. concat (concat l) ++ concat (column n slots k j)) before
    ∙ ap (λ l. concat (concat (map (take (suc j)) (take k rows))) ++ concat l) own
    ∙ ap (λ m. concat (concat (map (take (suc m)) (take k rows))) ++ concat done) count

pub store_is : (nested : NestedParts) (slots : List Slot) (j k : ℕ) → IsKept nested slots → k < phases_in nested → IsClear (phases_in nested) (map mark_of slots) j k →
    (noted_all (concat (column (phases_in nested) slots k j)) (noted_all (concat (concat (columns (phases_in nested) slots (suc j) k))) (fresh nested.store))).cells
    ≡ piped_store (nested_of nested) j k
store_is nested slots j k kept less clear =
    let front = concat (concat (columns (phases_in nested) slots (suc j) k)) in
    let own = concat (column (phases_in nested) slots k j) in
    cells_after own (noted_all front (fresh nested.store))
    ∙ ap (after own) (cells_after front (fresh nested.store))
    ∙ sym (after_append front own nested.store)
    ∙ ap (λ ws. after ws nested.store) (seen_is nested slots j k kept less clear)

-- A job that is read from those of a phase, and copied.
pub one_of_jobs : (jobs : List JobParts) (trees : List JobTree) (j i : ℕ) (own job : JobParts) → map job_of jobs ≡ trees → i ≡ j → i < length jobs →
    own ≡ get_or jobs i own → job ≡ own → slice_get trees j ≡ Some (job_of job)
one_of_jobs jobs trees j i own job same e less is copied =
    ap (λ l. slice_get l j) (sym same)
    ∙ ap (slice_get (map job_of jobs)) (sym e)
    ∙ slice_get-map job_of jobs i
    ∙ ap (option_map job_of) (slice_get_read jobs (length jobs) i own refl less is)
    ∙ ap (λ j. Some (job_of j)) (sym copied)

-- Merging the slots' writes gives the store that a piece starts from.
pub store_is_in_model : (nested : NestedParts) (slots : List Slot) (pipe : PipeParts) (j k : ℕ) (one two : List Slot) (p below earlier : ℕ) (first mid last : Trace) →
    pipe_model nested slots ≡ pipe → IsKept nested slots → k < phases_in nested → IsClear (phases_in nested) (map mark_of slots) j k →
    one ≡ slots → two ≡ slots → p ≡ phases_in nested → below ≡ j → earlier ≡ k → first ≡ fresh nested.store →
    mid ≡ noted_all (concat (concat (columns p one (below + 1) earlier))) first → last ≡ noted_all (concat (column p two earlier below)) mid →
    last.cells ≡ piped_store (nested_of pipe.nested) j k
store_is_in_model nested slots pipe j k one two p below earlier first mid last e kept less clear same_one same_two n b h start merged own =
    let front : concat (concat (columns p one (below + 1) earlier)) ≡ concat (concat (columns (phases_in nested) slots (suc j) k))
    = ap (λ l. concat (concat (columns p l (below + 1) earlier))) same_one
    ∙ ap (λ q. concat (concat (columns q slots (below + 1) earlier))) n
    ∙ ap (λ m. concat (concat (columns (phases_in nested) slots m earlier))) (add-one below ∙ ap suc b)
    ∙ ap (λ m. concat (concat (columns (phases_in nested) slots (suc j) m))) h in
    let row : concat (column p two earlier below) ≡ concat (column (phases_in nested) slots k j)
    = ap (λ l. concat (column p l earlier below)) same_two
    ∙ ap (λ q. concat (column q slots earlier below)) n
    ∙ ap (λ m. concat (column (phases_in nested) slots m below)) h
    ∙ ap (λ m. concat (column (phases_in nested) slots k m)) b in
    let whole : last ≡ noted_all (concat (column (phases_in nested) slots k j)) (noted_all (concat (concat (columns (phases_in nested) slots (suc j) k))) (fresh nested.store))
    = own ∙ ap (λ ws. noted_all ws mid) row
    ∙ ap (noted_all (concat (column (phases_in nested) slots k j)))
    (merged ∙ ap (λ ws. noted_all ws first) front ∙ ap (noted_all (concat (concat (columns (phases_in nested) slots (suc j) k)))) start) in
    ap (λ t. t.cells) whole ∙ store_is nested slots j k kept less clear
    ∙ ap (λ (t : PipeParts). piped_store (nested_of t.nested) j k) e

pub job_is_in_model : (nested : NestedParts) (slots : List Slot) (pipe : PipeParts) (j k : ℕ) (store : Store) (job : JobParts) → pipe_model nested slots ≡ pipe →
    store ≡ piped_store (nested_of pipe.nested) j k → slice_get (jobs_in (nested_of nested) k store) j ≡ Some (job_of job) →
    IsJobAt (nested_of pipe.nested) j k (job_of job)
job_is_in_model nested slots pipe j k store job e start own =
    ap (λ s. slice_get (jobs_in (nested_of pipe.nested) k s) j) (sym start)
    ∙ ap (λ (p : PipeParts). slice_get (jobs_in (nested_of p.nested) k store) j) (sym e)
    ∙ own
