-- The store that a piece starts from, by the store that the piece before it left.
use Rattle.std.proofs.Common.{◌≡◌, inl, inr, ℕ, zero, suc, ◌+◌, ◌-◌, ◌*◌, ◌<◌, List, [], ◌∷◌, ◌++◌, length, map, Some, refl, sym, ap, ◌∙◌, subst, arith, get_or, append_assoc}
use Rattle.std.specs.Prelude.{slice_get, slice_index_or}
use Rattle.std.proofs.lemmas.Option.{slice_get_read, get_or_from_slice_get, same_Some}
use Rattle.array_meaning.specs.Stores.{Store, after}
use Rattle.array_meaning.proofs.StepLemmas.{after_append}
use Rattle.array_eval.specs.Overlays.{Laid}
use Rattle.array_eval.specs.Traces.{Trace, fresh, noted_all}
use Rattle.array_eval.proofs.TraceLemmas.{cells_after}
use Rattle.array_jobs.specs.Jobs.{JobParts, job_of}
use Rattle.step_eval.specs.Nests.{NestedParts, NestedTree, nested_of}
use Rattle.step_eval.proofs.PhaseLemmas.{job_parts}
use Rattle.phase_order.specs.Pipes.{concat, written_before}
use Rattle.phase_order.proofs.Rows.{concat_append}
use Rattle.pipe_sched.specs.declared.slot.Slot.{Slot}
use Rattle.pipe_sched.specs.declared.slot.Slot.TheVariants as slot
use Rattle.pipe_sched.specs.Slots.{Filled, PipeParts, phases_in, IsAt, IsClear, IsReady, IsMarked}
use Rattle.pipe_sched.specs.Pipes.{piped_writes, piped_store}
use Rattle.pipe_sched.specs.Inside.{mark_of, IsRight, IsKept, written_in, started_from, written_with, column, columns}
use Rattle.pipe_sched.proofs.Kept.{pipe_model, model_at}
use Rattle.pipe_sched.proofs.Merges.{concat_one_more}
use Rattle.pipe_sched.proofs.Writes.{filled_entry, seen_is}

-- ---- the store that a filled piece leaves

started_is : (nested : NestedTree) (j k : ℕ) (own : Slot) → IsRight nested j k own → mark_of own ≡ Filled → started_from own ≡ piped_store nested j k
started_is nested j k slot.Waiting right e = absurd (cc)
started_is nested j k slot.Barred right e = absurd (cc)
started_is nested j k (slot.Out job) right e = absurd (cc)
started_is nested j k (slot.Filled job written) right e = (job_parts nested k (piped_store nested j k) j (job_of job) right.0).its_store
started_is nested j k (slot.Lost job) right e = absurd (cc)

-- The store after a filled slot's job is its start with its writes.
pub left_of : (own : Slot) (job : JobParts) (written : Laid) (store : Store) (start left : Trace) → own ≡ slot.Filled job written → store ≡ job.store →
    start ≡ fresh store → left ≡ noted_all written.pairs start → left.cells ≡ after (written_in own) (started_from own)
left_of own job written store start left is same begun merged =
    ap (λ (t : Trace). t.cells) merged
    ∙ ap (λ (t : Trace). (noted_all written.pairs t).cells) begun
    ∙ cells_after written.pairs (fresh store)
    ∙ ap (after written.pairs) same
    ∙ ap (λ (s : Slot). after (written_in s) (started_from s)) (sym is)

-- The pipeline's entry for the piece of a filled slot.
entry_is : (nested : NestedParts) (slots : List Slot) (j k : ℕ) → IsKept nested slots → IsAt (phases_in nested) (map mark_of slots) j k Filled →
    get_or (get_or (piped_writes (nested_of nested)) k []) j [] ≡ written_in (slice_index_or slots (j * phases_in nested + k) slot.Barred)
entry_is nested slots j k kept filled =
    get_or_from_slice_get (get_or (piped_writes (nested_of nested)) k []) j (written_in (slice_index_or slots (j * phases_in nested + k) slot.Barred)) []
    (filled_entry nested slots j k kept filled)

left_by : (nested : NestedParts) (slots : List Slot) (j k : ℕ) (own : Slot) → IsKept nested slots → IsAt (phases_in nested) (map mark_of slots) j k Filled →
    slice_get slots (j * phases_in nested + k) ≡ Some own →
    after (written_in own) (started_from own) ≡ after (written_with (piped_writes (nested_of nested)) j k) nested.store
left_by nested slots j k own kept filled here =
    let place = j * phases_in nested + k in
    let before = written_before (piped_writes (nested_of nested)) j k in
    let mark : mark_of own ≡ Filled = same_Some (mark_of own) Filled (sym (model_at slots place own here) ∙ filled.1) in
    let entry : get_or (get_or (piped_writes (nested_of nested)) k []) j [] ≡ written_in own
    = entry_is nested slots j k kept filled ∙ ap written_in (get_or_from_slice_get slots place own slot.Barred here) in
    ap (after (written_in own)) (started_is (nested_of nested) j k own (kept.right j k own filled.0 here) mark)
    ∙ sym (after_append before (written_in own) nested.store)
    ∙ ap (λ ws. after (before ++ ws) nested.store) (sym entry)

-- The store that a filled piece leaves, read from its slot.
pub left_is_in_model : (nested : NestedParts) (slots : List Slot) (pipe : PipeParts) (j k place : ℕ) (own : Slot) (left : Store) →
    pipe_model nested slots ≡ pipe → IsKept nested slots → IsMarked pipe j k Filled → place ≡ j * phases_in nested + k →
    place < length slots → own ≡ get_or slots place own → left ≡ after (written_in own) (started_from own) →
    left ≡ after (written_with (piped_writes (nested_of pipe.nested)) j k) pipe.nested.store
left_is_in_model nested slots pipe j k place own left e kept marked is less read by =
    let here = subst (λ (p : PipeParts). IsMarked p j k Filled) (sym e) marked in
    let there : slice_get slots (j * phases_in nested + k) ≡ Some own
    = ap (slice_get slots) (sym is) ∙ slice_get_read slots (length slots) place own refl less read in
    by ∙ left_by nested slots j k own kept here there
    ∙ ap (λ (p : PipeParts). after (written_with (piped_writes (nested_of p.nested)) j k) p.nested.store) e

-- ---- the pieces before the next one

-- The writes before a piece in a later phase of the same member.
seen_later : (nested : NestedParts) (slots : List Slot) (j k : ℕ) → IsKept nested slots → suc k < phases_in nested →
    IsClear (phases_in nested) (map mark_of slots) j (suc k) →
    written_before (piped_writes (nested_of nested)) j (suc k)
    ≡ written_with (piped_writes (nested_of nested)) j k ++ concat (column (phases_in nested) slots (suc k) j)
seen_later nested slots j k kept less clear =
    let n = phases_in nested in
    let rows = piped_writes (nested_of nested) in
    let own = written_in (slice_index_or slots (j * n + k) slot.Barred) in
    let front = concat (concat (columns n slots (suc j) k)) in
    let below = concat (column n slots k j) in
    let next = concat (column n slots (suc k) j) in
    let sooner : IsClear n (map mark_of slots) j k
    = λ i h before. clear i h (record { member = before.member; phase = (let le = before.phase in omega arith); other = inr (let le = before.phase in omega arith) }) in
    let filled = clear j k (record { member = omega arith; phase = omega arith; other = inr (omega arith) }) in
    let whole : concat (concat (columns n slots (suc j) (suc k))) ≡ front ++ (below ++ own)
    = ap concat (concat_one_more (columns n slots (suc j) k) (column n slots k (suc j)))
    ∙ concat_append (concat (columns n slots (suc j) k)) (column n slots k (suc j))
    ∙ ap (λ l. front ++ l) (concat_one_more (column n slots k j) own) in
    let joined : front ++ (below ++ own) ≡ written_with rows j k
    = sym (append_assoc front below own)
    ∙ ap (λ l. l ++ own) (seen_is nested slots j k kept (omega arith) sooner)
    ∙ ap (λ l. written_before rows j k ++ l) (sym (entry_is nested slots j k kept filled)) in
    sym (seen_is nested slots j (suc k) kept less clear) ∙ ap (λ l. l ++ next) (whole ∙ joined)

-- The writes before a piece in the first phase of the next member.
seen_above : (nested : NestedParts) (slots : List Slot) (j : ℕ) → IsKept nested slots → 0 < phases_in nested →
    IsClear (phases_in nested) (map mark_of slots) (suc j) 0 →
    written_before (piped_writes (nested_of nested)) (suc j) 0 ≡ written_with (piped_writes (nested_of nested)) j 0
seen_above nested slots j kept some clear =
    let n = phases_in nested in
    let rows = piped_writes (nested_of nested) in
    let own = written_in (slice_index_or slots (j * n + 0) slot.Barred) in
    let sooner : IsClear n (map mark_of slots) j 0
    = λ i h before. clear i h (record { member = (let le = before.member in omega arith); phase = before.phase; other = inl (let le = before.member in omega arith) }) in
    let filled = clear j 0 (record { member = omega arith; phase = omega arith; other = inl (omega arith) }) in
    sym (seen_is nested slots (suc j) 0 kept some clear)
    ∙ concat_one_more (column n slots 0 j) own
    ∙ ap (λ l. l ++ own) (seen_is nested slots j 0 kept some sooner)
    ∙ ap (λ l. written_before rows j 0 ++ l) (sym (entry_is nested slots j 0 kept filled))

-- ---- the store of a piece before which all are filled

-- The start of a piece that isn't in the first phase.
pub later_is_in_model : (nested : NestedParts) (slots given : List Slot) (pipe : PipeParts) (j k p below own : ℕ) (start merged : Trace) (store : Store) →
    pipe_model nested slots ≡ pipe → IsKept nested slots → IsReady (phases_in pipe.nested) pipe.marks j k → 0 < k →
    given ≡ slots → p ≡ phases_in nested → below ≡ j → own ≡ k →
    start.cells ≡ after (written_with (piped_writes (nested_of pipe.nested)) j (k - 1)) pipe.nested.store →
    merged ≡ noted_all (concat (column p given own below)) start → store ≡ merged.cells → store ≡ piped_store (nested_of pipe.nested) j k
later_is_in_model nested slots given pipe j zero p below own start merged store e kept ready later g n b a left is taken = absurd (omega arith)
later_is_in_model nested slots given pipe j (suc k) p below own start merged store e kept ready later g n b a left is taken =
    let rows = piped_writes (nested_of nested) in
    let row = concat (column (phases_in nested) slots (suc k) j) in
    let here = subst (λ (t : PipeParts). IsReady (phases_in t.nested) t.marks j (suc k)) (sym e) ready in
    let back : suc k - 1 ≡ k = omega arith in
    let begun : start.cells ≡ after (written_with rows j k) nested.store
    = left ∙ ap (λ (t : PipeParts). after (written_with (piped_writes (nested_of t.nested)) j (suc k - 1)) t.nested.store) (sym e)
    ∙ ap (λ m. after (written_with rows j m) nested.store) back in
    let same : concat (column p given own below) ≡ row
    = ap (λ l. concat (column p l own below)) g ∙ ap (λ q. concat (column q slots own below)) n
    ∙ ap (λ m. concat (column (phases_in nested) slots m below)) a ∙ ap (λ m. concat (column (phases_in nested) slots (suc k) m)) b in
    taken ∙ ap (λ (t : Trace). t.cells) is ∙ cells_after (concat (column p given own below)) start
    ∙ ap (λ ws. after ws start.cells) same ∙ ap (after row) begun
    ∙ sym (after_append (written_with rows j k) row nested.store)
    ∙ ap (λ ws. after ws nested.store) (sym (seen_later nested slots j k kept here.waits.0 here.clear))
    ∙ ap (λ (t : PipeParts). piped_store (nested_of t.nested) j (suc k)) e

-- The start of a piece in the first phase, of a member that isn't the first.
pub above_is_in_model : (nested : NestedParts) (slots : List Slot) (pipe : PipeParts) (j : ℕ) (start : Trace) (store : Store) →
    pipe_model nested slots ≡ pipe → IsKept nested slots → IsReady (phases_in pipe.nested) pipe.marks j 0 → 0 < j →
    start.cells ≡ after (written_with (piped_writes (nested_of pipe.nested)) (j - 1) 0) pipe.nested.store →
    store ≡ start.cells → store ≡ piped_store (nested_of pipe.nested) j 0
above_is_in_model nested slots pipe zero start store e kept ready later left taken = absurd (omega arith)
above_is_in_model nested slots pipe (suc j) start store e kept ready later left taken =
    let rows = piped_writes (nested_of nested) in
    let here = subst (λ (t : PipeParts). IsReady (phases_in t.nested) t.marks (suc j) 0) (sym e) ready in
    let back : suc j - 1 ≡ j = omega arith in
    taken ∙ left
    ∙ ap (λ (t : PipeParts). after (written_with (piped_writes (nested_of t.nested)) (suc j - 1) 0) t.nested.store) (sym e)
    ∙ ap (λ m. after (written_with rows m 0) nested.store) back
    ∙ ap (λ ws. after ws nested.store) (sym (seen_above nested slots j kept here.waits.0 here.clear))
    ∙ ap (λ (t : PipeParts). piped_store (nested_of t.nested) (suc j) 0) e

-- The start of the first piece.
pub first_is_in_model : (nested : NestedParts) (slots : List Slot) (pipe : PipeParts) (j : ℕ) (store : Store) →
    pipe_model nested slots ≡ pipe → IsKept nested slots → IsReady (phases_in pipe.nested) pipe.marks j 0 → j ≡ 0 →
    store ≡ pipe.nested.store → store ≡ piped_store (nested_of pipe.nested) j 0
first_is_in_model nested slots pipe j store e kept ready low taken =
    let here = subst (λ (t : PipeParts). IsReady (phases_in t.nested) t.marks j 0) (sym e) ready in
    let none = subst (λ m. IsReady (phases_in nested) (map mark_of slots) m 0) low here in
    taken ∙ ap (λ (t : PipeParts). t.nested.store) (sym e)
    ∙ ap (λ ws. after ws nested.store) (seen_is nested slots 0 0 kept none.waits.0 none.clear)
    ∙ ap (λ m. piped_store (nested_of nested) m 0) (sym low)
    ∙ ap (λ (t : PipeParts). piped_store (nested_of t.nested) j 0) e

-- ---- the pieces right before a ready piece are filled

pub earlier_filled : (pipe : PipeParts) (j k : ℕ) → IsReady (phases_in pipe.nested) pipe.marks j k → 0 < k → IsMarked pipe j (k - 1) Filled
earlier_filled pipe j k ready later =
    ready.clear j (k - 1) (record { member = omega arith; phase = omega arith; other = inr (omega arith) })

pub below_filled : (pipe : PipeParts) (j : ℕ) → IsReady (phases_in pipe.nested) pipe.marks j 0 → 0 < j → IsMarked pipe (j - 1) 0 Filled
below_filled pipe j ready later =
    ready.clear (j - 1) 0 (record { member = omega arith; phase = omega arith; other = inl (omega arith) })

-- A slot that is read is filled if its mark is.
pub filled_here : (nested : NestedParts) (slots : List Slot) (pipe : PipeParts) (j k place : ℕ) (own : Slot) → pipe_model nested slots ≡ pipe →
    IsMarked pipe j k Filled → place ≡ j * phases_in nested + k → place < length slots → own ≡ get_or slots place own → mark_of own ≡ Filled
filled_here nested slots pipe j k place own e marked is less read =
    let here = subst (λ (p : PipeParts). IsMarked p j k Filled) (sym e) marked in
    let there : slice_get slots (j * phases_in nested + k) ≡ Some own
    = ap (slice_get slots) (sym is) ∙ slice_get_read slots (length slots) place own refl less read in
    same_Some (mark_of own) Filled (sym (model_at slots (j * phases_in nested + k) own there) ∙ here.1)
