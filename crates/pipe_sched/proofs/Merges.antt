-- The writes in slots, merged in sequence.
use Rattle.std.proofs.Common.{◌≡◌, ℕ, ◌+◌, ◌*◌, ◌<◌, List, [], ◌∷◌, ◌++◌, length, get_or, refl, sym, ap, ◌∙◌, add-one}
use Rattle.std.proofs.lemmas.List.{append-nil}
use Rattle.std.proofs.lemmas.Option.{slice_get_read, get_or_from_slice_get}
use Rattle.array_eval.specs.Overlays.{Laid}
use Rattle.array_eval.specs.Traces.{Trace, noted_all}
use Rattle.array_eval.proofs.TraceLemmas.{noted_append}
use Rattle.array_jobs.specs.Jobs.{JobParts}
use Rattle.phase_order.specs.Pipes.{concat}
use Rattle.phase_order.proofs.Rows.{concat_append}
use Rattle.pipe_sched.specs.declared.slot.Slot.{Slot}
use Rattle.pipe_sched.specs.declared.slot.Slot.TheVariants as slot
use Rattle.pipe_sched.specs.Inside.{written_in, column, columns}

pub concat_one_more : {A : Type 0} (xss : List (List A)) (xs : List A) → concat (xss ++ xs ∷ []) ≡ concat xss ++ xs
concat_one_more xss xs = concat_append xss (xs ∷ []) ∙ ap (λ l. concat xss ++ l) (append-nil xs)

pub unfilled : (own : Slot) → ((job : JobParts) (written : Laid) → own ≡ slot.Filled job written → ⊥) → written_in own ≡ []
unfilled slot.Waiting other = refl
unfilled slot.Barred other = refl
unfilled (slot.Out job) other = refl
unfilled (slot.Filled job written) other = absurd (other job written refl)
unfilled (slot.Lost job) other = refl

pub merged_member : (n : ℕ) (slots : List Slot) (k m : ℕ) (own : Slot) (store next first : Trace) → m * n + k < length slots →
    own ≡ get_or slots (m * n + k) own → next ≡ noted_all (written_in own) store →
    store ≡ noted_all (concat (column n slots k m)) first → next ≡ noted_all (concat (column n slots k (m + 1))) first
merged_member n slots k m own store next first less is merged done =
    let place = m * n + k in
    let here : get_or slots place slot.Barred ≡ own
    = get_or_from_slice_get slots place own slot.Barred (slice_get_read slots (length slots) place own refl less is) in
    let front = concat (column n slots k m) in
    let whole : concat (column n slots k (m + 1)) ≡ front ++ written_in own
    = ap (λ i. concat (column n slots k i)) (add-one m)
    ∙ concat_one_more (column n slots k m) (written_in (get_or slots place slot.Barred))
    ∙ ap (λ s. front ++ written_in s) here in
    merged ∙ ap (noted_all (written_in own)) done ∙ sym (noted_append front (written_in own) first)
    ∙ ap (λ ws. noted_all ws first) (sym whole)

pub merged_phase : (n : ℕ) (slots : List Slot) (m k : ℕ) (store next first : Trace) → next ≡ noted_all (concat (column n slots k m)) store →
    store ≡ noted_all (concat (concat (columns n slots m k))) first → next ≡ noted_all (concat (concat (columns n slots m (k + 1)))) first
merged_phase n slots m k store next first merged done =
    let before = concat (columns n slots m k) in
    let own = column n slots k m in
    let whole : concat (concat (columns n slots m (k + 1))) ≡ concat before ++ concat own
    = ap (λ i. concat (concat (columns n slots m i))) (add-one k)
    ∙ ap concat (concat_one_more (columns n slots m k) own)
    ∙ concat_append before own in
    merged ∙ ap (noted_all (concat own)) done ∙ sym (noted_append (concat before) (concat own) first)
    ∙ ap (λ ws. noted_all ws first) (sym whole)
