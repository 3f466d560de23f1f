-- A pipeline whose slots are all filled has its construct's writes.
use Rattle.std.proofs.Common.{◌≡◌, ℕ, zero, suc, ◌+◌, ◌*◌, ◌<◌, ◌≤◌, true, false, List, [], ◌∷◌, ◌++◌, length, map, take, Some, ℤ, refl, sym, ap, ◌∙◌, subst, arith, get_or}
use Rattle.std.specs.Prelude.{slice_get, slice_index_or, unsigned_abs, ◌&&◌, pos, int_le}
use Rattle.std.proofs.lemmas.Bool.{and_parts}
use Rattle.std.proofs.lemmas.List.{length-map, length-replicate}
use Rattle.std.proofs.lemmas.Nat.{mul-add-lt}
use Rattle.std.proofs.lemmas.Option.{slice_get-get_or, same_Some}
use Rattle.array_tree.specs.Trees.{Statement, Assign, For, If, Par, Team, Sequences, no_more, beside}
use Rattle.array_meaning.specs.Stores.{Arrays, Vars, Store, Write, HaveCells, arrays_of}
use Rattle.array_meaning.specs.Steps.{writes_of}
use Rattle.array_meaning.specs.Work.{statement_work}
use Rattle.array_meaning.specs.Sites.{phase_rounds}
use Rattle.array_meaning.specs.Limits.{is_up_to, count_of, have_right_ranges, statement_has_right_ranges}
use Rattle.array_meaning.specs.Pieces.{lays, last_writes, merged}
use Rattle.array_meaning.proofs.BelowLemmas.{AreBelow, below_of}
use Rattle.array_meaning.proofs.CellLemmas.{some_cell}
use Rattle.array_meaning.proofs.LastLemmas.{lays_append, same_last, last_value_last}
use Rattle.array_meaning.proofs.StepLemmas.{length_after}
use Rattle.array_eval.specs.Traces.{Trace, fresh, noted_all, marked}
use Rattle.array_eval.proofs.TraceLemmas.{cells_after, marked_after, none_marked}
use Rattle.array_jobs.specs.Jobs.{JobTree, IsFit, job_of}
use Rattle.array_jobs.specs.PieceParts.{piece_of_job}
use Rattle.join_book.proofs.BookLemmas.{piece_below}
use Rattle.step_eval.specs.declared.shape.Kind.TheVariants as kind
use Rattle.step_eval.specs.Nests.{NestedParts, NestedTree, nested_of, phases_of, rounds_of, jobs_in, AreFitJobs, IsFitNest, nested_writes}
use Rattle.step_eval.specs.Phases.{steps_of_job}
use Rattle.step_eval.specs.Shapes.{kind_of, members_of}
use Rattle.step_eval.proofs.PhaseLemmas.{jobs_are_rounds, jobs_are_counted, job_parts, arrays_have_cells}
use Rattle.step_eval.proofs.PieceLemmas.{fit_other_store, some_members}
use Rattle.step_eval.proofs.ShapeLemmas.{some_phases, some_pieces}
use Rattle.phase_order.specs.Crossings.{HasNoCrossing}
use Rattle.phase_order.specs.Pipes.{concat, written_before, piped}
use Rattle.phase_order.proofs.Entries.{pipes_have_shape}
use Rattle.phase_order.proofs.Order.{pipes_are_whole}
use Rattle.phase_order.proofs.Teams.{join_phases}
use Rattle.pipe_sched.specs.declared.slot.Slot.{Slot}
use Rattle.pipe_sched.specs.declared.slot.Slot.TheVariants as slot
use Rattle.pipe_sched.specs.Slots.{Mark, Waiting, Barred, Out, Filled, Lost, PipeParts, phases_in, members_in, IsAt, is_settled, is_failed, IsFull, HasFailed}
use Rattle.pipe_sched.specs.Pipes.{piped_writes, piped_store, IsJobAt, IsUncrossed}
use Rattle.pipe_sched.specs.Inside.{mark_of, IsRight, IsKept, written_in, column, columns}
use Rattle.pipe_sched.proofs.Kept.{pipe_model}
use Rattle.pipe_sched.proofs.Merges.{concat_one_more}
use Rattle.pipe_sched.proofs.Writes.{round_is, columns_are}

-- ---- the shape of a construct

count_rounds : (ps : Sequences) (var : List ℕ) (low high : ℤ) (m : ℕ) (vars : Vars) → length (phase_rounds ps var low high m vars) ≡ count_of ps
count_rounds no_more var low high m vars = refl
count_rounds (beside first rest) var low high m vars = let more = count_rounds rest var low high m vars in omega (arith, more)

rounds_counted : (construct : Statement) (vars : Vars) → length (rounds_of construct vars) ≡ phases_of construct
rounds_counted (Assign line array index value) vars = refl
rounds_counted (For line var low high body) vars = refl
rounds_counted (If line cond then_block else_block) vars = refl
rounds_counted (Par line branches) vars = refl
rounds_counted (Team line var low high members phases) vars = count_rounds phases var low high (unsigned_abs members) vars

round_counted : (nested : NestedTree) (k : ℕ) → k < phases_of nested.construct → length (get_or (rounds_of nested.construct nested.vars) k []) ≡ members_of nested.construct
round_counted nested k less =
    let jobs = jobs_in nested k nested.store in
    ap length (round_is (rounds_of nested.construct nested.vars) k ∙ sym (jobs_are_rounds nested k nested.store less))
    ∙ length-map jobs steps_of_job
    ∙ jobs_are_counted nested k nested.store less

take_whole : {A : Type 0} (n : ℕ) (xs : List A) → length xs ≤ n → take n xs ≡ xs
take_whole zero [] le = refl
take_whole (suc n) [] le = refl
take_whole zero (x ∷ xs) le = absurd (omega arith)
take_whole (suc n) (x ∷ xs) le = ap (λ l. x ∷ l) (take_whole n xs (omega arith))

rows_whole : {A : Type 0} (m : ℕ) (rows : List (List A)) → ((k : ℕ) → k < length rows → length (get_or rows k []) ≤ m) → map (take m) rows ≡ rows
rows_whole m [] each = refl
rows_whole m (row ∷ rows) each =
    ap (λ r. r ∷ map (take m) rows) (take_whole m row (each 0 (omega arith)))
    ∙ ap (λ l. row ∷ l) (rows_whole m rows (λ k less. each (suc k) (omega arith)))

-- All members of all phases.
pub whole_rows : (nested : NestedTree) → map (take (members_of nested.construct)) (take (phases_of nested.construct) (piped_writes nested)) ≡ piped_writes nested
whole_rows nested =
    let rounds = rounds_of nested.construct nested.vars in
    let rows = piped_writes nested in
    let shape = pipes_have_shape (arrays_of nested.arrays) rounds nested.store in
    let count : length rows ≡ phases_of nested.construct = shape.phases ∙ rounds_counted nested.construct nested.vars in
    ap (map (take (members_of nested.construct))) (take_whole (phases_of nested.construct) rows (omega (arith, count)))
    ∙ rows_whole (members_of nested.construct) rows (λ k less.
    let members = shape.members k in
    let own = round_counted nested k (omega (arith, count)) in
    omega (arith, members, own))

-- ---- the merged writes lie inside the store

fit_at : (jobs : List JobTree) (j : ℕ) (job : JobTree) → AreFitJobs jobs → slice_get jobs j ≡ Some job → IsFit job
fit_at [] j job fit e = absurd (cc)
fit_at (first ∷ more) zero job fit e = subst IsFit (same_Some first job e) fit.0
fit_at (first ∷ more) (suc j) job fit e = fit_at more j job fit.1 e

piped_size : (nested : NestedTree) (j k : ℕ) → length (piped_store nested j k) ≡ length nested.store
piped_size nested j k = length_after (written_before (piped_writes nested) j k) nested.store

-- The job of a member in a phase is fit.
pub job_fits : (nested : NestedTree) (j k : ℕ) (job : JobTree) → IsFitNest nested → k < phases_of nested.construct → IsJobAt nested j k job → IsFit job
job_fits nested j k job fit less own =
    fit_at (jobs_in nested k (piped_store nested j k)) j job
    (fit_other_store nested fit k less (piped_store nested j k) (piped_size nested j k)) own

written_below : (nested : NestedTree) (j k : ℕ) (own : Slot) → IsFitNest nested → k < phases_of nested.construct → IsRight nested j k own →
    AreBelow (length nested.store) (written_in own)
written_below nested j k slot.Waiting fit less right = tt
written_below nested j k slot.Barred fit less right = tt
written_below nested j k (slot.Out job) fit less right = tt
written_below nested j k (slot.Filled job written) fit less right =
    let fits = job_fits nested j k (job_of job) fit less right.0 in
    let parts = job_parts nested k (piped_store nested j k) j (job_of job) right.0 in
    let size : length job.store ≡ length nested.store = ap length parts.its_store ∙ piped_size nested j k in
    let below = below_of (length job.store) (piece_of_job (job_of job)) (piece_below (job_of job) fits) in
    subst (λ ws. AreBelow (length nested.store) ws) (sym right.1)
    (subst (λ n. AreBelow n (piece_of_job (job_of job))) size below)
written_below nested j k (slot.Lost job) fit less right = tt

below_append : (n : ℕ) (a b : List Write) → AreBelow n a → AreBelow n b → AreBelow n (a ++ b)
below_append n [] b h k = k
below_append n (w ∷ a) b h k = (h.0, below_append n a b h.1 k)

abbrev AreAllBelow : ℕ → List (List Write) → Type 0
AreAllBelow n [] = Unit {0}
AreAllBelow n (ws ∷ more) = AreBelow n ws × AreAllBelow n more

all_append : (n : ℕ) (a b : List (List Write)) → AreAllBelow n a → AreAllBelow n b → AreAllBelow n (a ++ b)
all_append n [] b h k = k
all_append n (w ∷ a) b h k = (h.0, all_append n a b h.1 k)

concat_below : (n : ℕ) (wss : List (List Write)) → AreAllBelow n wss → AreBelow n (concat wss)
concat_below n [] h = tt
concat_below n (ws ∷ more) h = below_append n ws (concat more) h.0 (concat_below n more h.1)

slot_below : (nested : NestedParts) (slots : List Slot) (j k : ℕ) → IsKept nested slots → k < phases_in nested → j < members_in nested →
    AreBelow (length nested.store) (written_in (slice_index_or slots (j * phases_in nested + k) slot.Barred))
slot_below nested slots j k kept less member =
    let place = j * phases_in nested + k in
    let room = mul-add-lt j (phases_in nested) k (members_in nested) member less in
    let count = kept.count in
    let there : place < length slots = omega (arith, room, count) in
    written_below (nested_of nested) j k (get_or slots place slot.Barred) kept.fit less
    (kept.right j k (get_or slots place slot.Barred) less (slice_get-get_or slots place slot.Barred there))

column_below : (nested : NestedParts) (slots : List Slot) (k m : ℕ) → IsKept nested slots → k < phases_in nested → m ≤ members_in nested →
    AreAllBelow (length nested.store) (column (phases_in nested) slots k m)
column_below nested slots k zero kept less members = tt
column_below nested slots k (suc m) kept less members =
    all_append (length nested.store) (column (phases_in nested) slots k m) (written_in (slice_index_or slots (m * phases_in nested + k) slot.Barred) ∷ [])
    (column_below nested slots k m kept less (omega arith))
    (slot_below nested slots m k kept less (omega arith), tt)

columns_below : (nested : NestedParts) (slots : List Slot) (m k : ℕ) → IsKept nested slots → k ≤ phases_in nested → m ≤ members_in nested →
    AreAllBelow (length nested.store) (concat (columns (phases_in nested) slots m k))
columns_below nested slots m zero kept phases members = tt
columns_below nested slots m (suc k) kept phases members =
    subst (AreAllBelow (length nested.store))
    (sym (concat_one_more (columns (phases_in nested) slots m k) (column (phases_in nested) slots k m)))
    (all_append (length nested.store) (concat (columns (phases_in nested) slots m k)) (column (phases_in nested) slots k m)
    (columns_below nested slots m k kept (omega arith) members)
    (column_below nested slots k m kept (omega arith) members))

-- ---- all writes

-- Writes in sequence are merged.
writes_merged : (pieces : List (List Write)) (laid : List Write) → merged pieces laid ≡ lays (concat pieces) laid
writes_merged [] laid = refl
writes_merged (piece ∷ pieces) laid = writes_merged pieces (lays piece laid) ∙ sym (lays_append piece (concat pieces) laid)

team_writes : (construct : Statement) (arrays : Arrays) (vars : Vars) (store : Store) → HaveCells arrays → kind_of construct ≡ Some kind.Team →
    statement_has_right_ranges construct ≡ true → HasNoCrossing arrays (rounds_of construct vars) →
    merged (concat (piped arrays (rounds_of construct vars) store)) [] ≡ last_writes (writes_of arrays (statement_work construct vars) store)
team_writes (Assign line array index value) arrays vars store have team limits clear = absurd (cc)
team_writes (For line var low high body) arrays vars store have team limits clear = absurd (cc)
team_writes (If line cond then_block else_block) arrays vars store have team limits clear = absurd (cc)
team_writes (Par line branches) arrays vars store have team limits clear = absurd (cc)
team_writes (Team line var low high members phases) arrays vars store have team limits clear =
    let parts = and_parts (int_le low high && is_up_to (pos 64) members) (is_up_to (pos 8) (pos (count_of phases)) && have_right_ranges phases) limits in
    let some = some_members members (and_parts (int_le low high) (is_up_to (pos 64) members) parts.0).1 in
    pipes_are_whole arrays (some_cell arrays have) store (phase_rounds phases var low high (unsigned_abs members) vars) clear
    ∙ ap (λ w. last_writes (writes_of arrays w store)) (join_phases phases var low high (unsigned_abs members) vars some)

settled_is_filled : (mark : Mark) → is_settled mark ≡ true → (is_failed mark ≡ true → ⊥) → mark ≡ Filled
settled_is_filled Waiting settled fine = absurd (cc)
settled_is_filled Barred settled fine = absurd (fine refl)
settled_is_filled Out settled fine = absurd (cc)
settled_is_filled Filled settled fine = refl
settled_is_filled Lost settled fine = absurd (fine refl)

all_filled : (nested : NestedParts) (slots : List Slot) → IsKept nested slots → IsFull (pipe_model nested slots) → (HasFailed (pipe_model nested slots) → ⊥) →
    (j k : ℕ) → j < members_in nested → k < phases_in nested → IsAt (phases_in nested) (map mark_of slots) j k Filled
all_filled nested slots kept full fine j k member phase =
    let n = phases_in nested in
    let marks = map mark_of slots in
    let place = j * n + k in
    let room = mul-add-lt j n k (members_in nested) member phase in
    let count = kept.count in
    let same = length-map slots mark_of in
    let there : place < length marks = omega (arith, room, count, same) in
    let here = slice_get-get_or marks place Barred there in
    let mark = get_or marks place Barred in
    let filled = settled_is_filled mark (full place mark here) (λ failed. fine (place, mark, here, failed)) in
    (phase, here ∙ ap Some filled)

-- The writes of all pieces, merged in the order of phases, are the construct's writes.
pub all_written : (nested : NestedParts) (slots : List Slot) (store : Trace) → IsKept nested slots →
    IsFull (pipe_model nested slots) → (HasFailed (pipe_model nested slots) → ⊥) →
    store ≡ noted_all (concat (concat (columns (phases_in nested) slots (members_in nested) (phases_in nested)))) (fresh nested.store) →
    IsUncrossed (nested_of nested) → last_writes (marked store) ≡ nested_writes (nested_of nested)
all_written nested slots store kept full fine is clear =
    let tree = nested_of nested in
    let n = phases_in nested in
    let m = members_in nested in
    let rows = piped_writes tree in
    let all = concat (concat (columns n slots m n)) in
    let some = some_pieces tree.construct kept.fit.construct kept.fit.limits in
    let phases = some_phases tree.construct kept.fit.construct kept.fit.limits in
    let own : columns n slots m n ≡ rows = columns_are nested slots m n kept some (all_filled nested slots kept full fine) ∙ whole_rows tree in
    let below = concat_below (length nested.store) (concat (columns n slots m n)) (columns_below nested slots m n kept (omega arith) (omega arith)) in
    let laid : marked (noted_all all (fresh nested.store)) ≡ lays all []
    = marked_after all (fresh nested.store) below (sym (length-replicate (length nested.store) false))
    ∙ ap (lays all) (none_marked 0 nested.store (length nested.store)) in
    let whole = team_writes tree.construct (arrays_of tree.arrays) tree.vars tree.store (arrays_have_cells tree kept.fit phases) kept.team kept.fit.limits clear in
    let ws = writes_of (arrays_of tree.arrays) (statement_work tree.construct tree.vars) tree.store in
    ap (λ t. last_writes (marked t)) is
    ∙ ap last_writes (laid ∙ ap (λ c. lays (concat (concat c)) []) own ∙ sym (writes_merged (concat rows) []) ∙ whole)
    ∙ same_last (last_writes ws) ws (last_value_last ws)

pub merged_size : (ws : List Write) (start : Store) (first last : Trace) → first ≡ fresh start → last ≡ noted_all ws first → length last.cells ≡ length start
merged_size ws start first last e is =
    ap (λ t. length t.cells) is ∙ ap length (cells_after ws first) ∙ length_after ws first.cells ∙ ap (λ t. length t.cells) e

-- Merging the slots' writes gives the construct's writes.
pub all_in_model : (nested : NestedParts) (slots : List Slot) (pipe : PipeParts) (given : List Slot) (m p : ℕ) (first last : Trace) → pipe_model nested slots ≡ pipe →
    IsKept nested slots → IsFull pipe → (HasFailed pipe → ⊥) → given ≡ slots → m ≡ members_in nested → p ≡ phases_in nested → first ≡ fresh nested.store →
    last ≡ noted_all (concat (concat (columns p given m p))) first → IsUncrossed (nested_of pipe.nested) →
    last_writes (marked last) ≡ nested_writes (nested_of pipe.nested)
all_in_model nested slots pipe given m p first last e kept full fine g members phases start merged clear =
    let all : concat (concat (columns p given m p)) ≡ concat (concat (columns (phases_in nested) slots (members_in nested) (phases_in nested)))
    = ap (λ l. concat (concat (columns p l m p))) g
    ∙ ap (λ q. concat (concat (columns q slots m q))) phases
    ∙ ap (λ q. concat (concat (columns (phases_in nested) slots q (phases_in nested)))) members in
    let whole : last ≡ noted_all (concat (concat (columns (phases_in nested) slots (members_in nested) (phases_in nested)))) (fresh nested.store)
    = merged ∙ ap (λ ws. noted_all ws first) all
    ∙ ap (noted_all (concat (concat (columns (phases_in nested) slots (members_in nested) (phases_in nested))))) start in
    all_written nested slots last kept (subst IsFull (sym e) full) (λ failed. fine (subst HasFailed e failed)) whole
    (subst (λ (t : PipeParts). IsUncrossed (nested_of t.nested)) (sym e) clear)
    ∙ ap (λ (t : PipeParts). nested_writes (nested_of t.nested)) e
