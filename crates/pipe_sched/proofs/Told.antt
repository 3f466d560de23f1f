-- Pipelines, by the models of their slots.
use Rattle.std.proofs.Common.{◌≡◌, ◌⊎◌, inl, inr, ℕ, zero, suc, ◌+◌, ◌*◌, ◌/◌, ◌%◌, ◌<◌, ◌≤◌, List, [], ◌∷◌, ◌++◌, length, map, replicate, take, drop, get_or, Some, refl, sym, ap, ◌∙◌, subst, arith}
use Rattle.std.specs.Prelude.{slice_get, slice_set, ◌↔◌}
use Rattle.std.proofs.lemmas.Bool.{cases_lt}
use Rattle.std.proofs.lemmas.List.{append-nil}
use Rattle.std.proofs.lemmas.Nat.{mul-le}
use Rattle.std.proofs.lemmas.Option.{slice_get_read, same_Some}
use Rattle.array_eval.specs.Overlays.{Laid}
use Rattle.array_jobs.specs.Jobs.{JobParts, job_of}
use Rattle.array_jobs.specs.PieceParts.{piece_of_job}
use Rattle.pipe_sched.specs.declared.slot.Slot.{Slot}
use Rattle.pipe_sched.specs.declared.slot.Slot.TheVariants as slot
use Rattle.step_eval.specs.Nests.{NestedParts, nested_of}
use Rattle.pipe_sched.specs.Slots.{Mark, Waiting, Barred, Out, Filled, Lost, PipeParts, phases_in, members_in, IsAt, IsReady, IsFirst, IsMarked, IsDue, NoneIsDue, IsFull, HasFailed, FailsFrom, is_settled, is_failed, new_pipe, marked_pipe, failed_mark, failed_pipe, follows, changed_where}
use Rattle.pipe_sched.specs.Pipes.{IsJobAt, WasHandedOut, HandsOut}
use Rattle.pipe_sched.specs.Inside.{mark_of, HasJob, failed_slot, IsRight, AreSettled, HaveFailed, LooksReady, IsKept}
use Rattle.pipe_sched.proofs.Places.{read_within, first_is_due, none_is_ready}
use Rattle.pipe_sched.proofs.Changes.{at_own, changed_length}
use Rattle.pipe_sched.proofs.Kept.{pipe_model, model_at, held_at, new_model, set_model, failed_model, kept_set, fails_from}

abbrev marks_model : NestedParts → List Mark → PipeParts
marks_model nested marks = record { nested = nested; marks = marks }

pub new_is_in_model : (nested : NestedParts) (slots : List Slot) → slots ≡ replicate (members_in nested * phases_in nested) slot.Waiting → pipe_model nested slots ≡ new_pipe nested
new_is_in_model nested slots e = ap (marks_model nested) (new_model slots (members_in nested * phases_in nested) e)

pub mark_is_in_model : (nested : NestedParts) (slots after : List Slot) (pipe : PipeParts) (j k : ℕ) (own : Slot) (mark : Mark) → pipe_model nested slots ≡ pipe →
    after ≡ slice_set slots (j * phases_in nested + k) own → mark_of own ≡ mark → pipe_model nested after ≡ marked_pipe pipe j k mark
mark_is_in_model nested slots after pipe j k own mark e is same =
    let P : PipeParts → Type 0 = λ p. pipe_model nested after ≡ marked_pipe p j k mark in
    subst P e (ap (pipe_model nested) is ∙ ap (marks_model nested) (set_model slots (j * phases_in nested + k) own mark same))

pub failing_is_in_model : (nested : NestedParts) (slots after : List Slot) (pipe : PipeParts) (j k : ℕ) → pipe_model nested slots ≡ pipe →
    after ≡ changed_where (follows (phases_in nested) j k) failed_slot 0 slots → pipe_model nested after ≡ failed_pipe pipe j k
failing_is_in_model nested slots after pipe j k e is =
    let P : PipeParts → Type 0 = λ p. pipe_model nested after ≡ failed_pipe p j k in
    subst P e (ap (pipe_model nested) is ∙ ap (marks_model nested) (failed_model slots (follows (phases_in nested) j k)))

pub full_is_in_model : (nested : NestedParts) (slots : List Slot) → AreSettled slots ↔ IsFull (pipe_model nested slots)
full_is_in_model nested slots = (
  λ settled i mark e. let held = held_at slots i mark e in ap is_settled (sym held.2) ∙ settled i held.0 held.1,
  λ full i own e. full i (mark_of own) (model_at slots i own e),
)

pub failed_is_in_model : (nested : NestedParts) (slots : List Slot) → HaveFailed slots ↔ HasFailed (pipe_model nested slots)
failed_is_in_model nested slots = (
  λ h. (h.0, mark_of h.1, model_at slots h.0 h.1 h.2, h.3),
  λ h. let held = held_at slots h.0 h.1 h.2 in (h.0, held.0, held.1, ap is_failed held.2 ∙ h.3),
)

-- ---- a slot

pub place_is : (f p h j n k : ℕ) → f ≡ j → p ≡ n → h ≡ k → f * p + h ≡ j * n + k
place_is f p h j n k a b c = ap (λ m. m * p + h) a ∙ ap (λ m. j * m + h) b ∙ ap (λ m. j * n + m) c

pub seen : (nested : NestedParts) (slots : List Slot) (pipe : PipeParts) (j k place : ℕ) (own : Slot) → pipe_model nested slots ≡ pipe → IsKept nested slots →
    place ≡ j * phases_in nested + k → k < phases_in nested → place < length slots → own ≡ get_or slots place own →
    IsMarked pipe j k (mark_of own) × IsRight (nested_of pipe.nested) j k own
seen nested slots pipe j k place own e kept is small less read =
    let there = slice_get_read slots (length slots) place own refl less read in
    let here : slice_get slots (j * phases_in nested + k) ≡ Some own = sym (ap (slice_get slots) is) ∙ there in
    let Q : PipeParts → Type 0 = λ p. IsMarked p j k (mark_of own) × IsRight (nested_of p.nested) j k own in
    subst Q e ((small, model_at slots (j * phases_in nested + k) own here), kept.right j k own small here)

pub unseen : (nested : NestedParts) (slots : List Slot) (pipe : PipeParts) (j k place : ℕ) → pipe_model nested slots ≡ pipe →
    place ≡ j * phases_in nested + k → length slots ≤ place → (mark : Mark) → IsMarked pipe j k mark → ⊥
unseen nested slots pipe j k place e is le mark here =
    let Q : PipeParts → Type 0 = λ p. IsMarked p j k mark in
    let there = subst Q (sym e) here in
    let less = read_within slots (j * phases_in nested + k) mark there.1 in
    omega (arith, less, is, le)

pub unseen_phase : (nested : NestedParts) (slots : List Slot) (pipe : PipeParts) (j k : ℕ) → pipe_model nested slots ≡ pipe →
    phases_in nested ≤ k → (mark : Mark) → IsMarked pipe j k mark → ⊥
unseen_phase nested slots pipe j k e le mark here =
    let Q : PipeParts → Type 0 = λ p. IsMarked p j k mark in
    let there = subst Q (sym e) here in
    let less = there.0 in
    omega (arith, less, le)

-- ---- the jobs that were handed out

handed_out : (pipe : PipeParts) (own : Slot) (job : JobParts) → IsMarked pipe job.place job.phase (mark_of own) → IsRight (nested_of pipe.nested) job.place job.phase own →
    HasJob own job → WasHandedOut pipe job
handed_out pipe slot.Waiting job marked right has = absurd has
handed_out pipe slot.Barred job marked right has = absurd has
handed_out pipe (slot.Out own) job marked right has =
    record { mark = Out; marked = marked; begun = refl; own = subst (IsJobAt (nested_of pipe.nested) job.place job.phase) has right }
handed_out pipe (slot.Filled own written) job marked right has =
    record { mark = Filled; marked = marked; begun = refl; own = subst (IsJobAt (nested_of pipe.nested) job.place job.phase) has right.0 }
handed_out pipe (slot.Lost own) job marked right has =
    record { mark = Lost; marked = marked; begun = refl; own = subst (IsJobAt (nested_of pipe.nested) job.place job.phase) has right }

has_own : (pipe : PipeParts) (own : Slot) (job : JobParts) → IsMarked pipe job.place job.phase (mark_of own) → IsRight (nested_of pipe.nested) job.place job.phase own →
    WasHandedOut pipe job → HasJob own job
has_own pipe slot.Waiting job marked right was =
    let same : Waiting ≡ was.mark = same_Some Waiting was.mark (sym marked.1 ∙ was.marked.1) in let begun = was.begun in absurd (cc (same, begun))
has_own pipe slot.Barred job marked right was =
    let same : Barred ≡ was.mark = same_Some Barred was.mark (sym marked.1 ∙ was.marked.1) in let begun = was.begun in absurd (cc (same, begun))
has_own pipe (slot.Out own) job marked right was = same_Some (job_of own) (job_of job) (sym right ∙ was.own)
has_own pipe (slot.Filled own written) job marked right was = same_Some (job_of own) (job_of job) (sym right.0 ∙ was.own)
has_own pipe (slot.Lost own) job marked right was = same_Some (job_of own) (job_of job) (sym right ∙ was.own)

-- A slot has an equal job iff the job was handed out.
pub has_is_handed_out : (pipe : PipeParts) (own : Slot) (job : JobParts) (j k : ℕ) → j ≡ job.place → k ≡ job.phase →
    IsMarked pipe j k (mark_of own) × IsRight (nested_of pipe.nested) j k own → HasJob own job ↔ WasHandedOut pipe job
has_is_handed_out pipe own job j k a b is =
    let P : ℕ → Type 0 = λ m. IsMarked pipe m k (mark_of own) × IsRight (nested_of pipe.nested) m k own in
    let Q : ℕ → Type 0 = λ h. IsMarked pipe job.place h (mark_of own) × IsRight (nested_of pipe.nested) job.place h own in
    let own_place = subst Q b (subst P a is) in
    (handed_out pipe own job own_place.0 own_place.1, has_own pipe own job own_place.0 own_place.1)

pub mark_at_job : (pipe : PipeParts) (job : JobParts) (j k : ℕ) (mark : Mark) → j ≡ job.place → k ≡ job.phase →
    IsMarked pipe j k mark ↔ IsMarked pipe job.place job.phase mark
mark_at_job pipe job j k mark a b =
    let P : ℕ → Type 0 = λ m. IsMarked pipe m k mark in
    let Q : ℕ → Type 0 = λ h. IsMarked pipe job.place h mark in
    (λ is. subst Q b (subst P a is), λ is. subst P (sym a) (subst Q (sym b) is))

pub same_mark : (pipe : PipeParts) (j k : ℕ) (a b : Mark) → IsMarked pipe j k a → IsMarked pipe j k b → a ≡ b
same_mark pipe j k a b x y = same_Some a b (sym x.1 ∙ y.1)

-- A slot's mark is out iff its index is marked as out.
pub mark_is_out : (pipe : PipeParts) (j k : ℕ) (mark : Mark) → IsMarked pipe j k mark → (mark ≡ Out) ↔ IsMarked pipe j k Out
mark_is_out pipe j k mark marked =
    (λ e. subst (IsMarked pipe j k) e marked, λ out. same_mark pipe j k mark Out marked out)

-- ---- which piece is due

pub due_is_in_model : (nested : NestedParts) (slots given : List Slot) (pipe : PipeParts) (p place : ℕ) → pipe_model nested slots ≡ pipe → IsKept nested slots →
    given ≡ slots → p ≡ phases_in nested → 0 < p → place < length given → LooksReady p given place →
    ((i : ℕ) → i < place → LooksReady p given i → ⊥) → IsDue pipe (place / p) (place % p)
due_is_in_model nested slots given pipe p place e kept g q some less look first =
    let n = phases_in nested in
    let marks = map mark_of slots in
    let there : place < length slots = subst (λ (l : List Slot). place < length l) g less in
    let here = subst (λ m. LooksReady m slots place) q (subst (λ (l : List Slot). LooksReady p l place) g look) in
    let none : (i : ℕ) → i < place → LooksReady n slots i → ⊥
    = λ i lower other. first i lower (subst (λ (l : List Slot). LooksReady p l i) (sym g) (subst (λ m. LooksReady m slots i) (sym q) other)) in
    let due = first_is_due n slots place (subst (λ m. 0 < m) q some) there kept.order here none in
    let P : PipeParts → Type 0 = λ t. IsDue t (place / p) (place % p) in
    subst P e (subst (λ m. IsFirst n marks (place / m) (place % m)) (sym q) due)

pub none_is_due : (nested : NestedParts) (slots given : List Slot) (pipe : PipeParts) (p : ℕ) → pipe_model nested slots ≡ pipe →
    given ≡ slots → p ≡ phases_in nested → ((i : ℕ) → i < length given → LooksReady p given i → ⊥) → NoneIsDue pipe
none_is_due nested slots given pipe p e g q none =
    let n = phases_in nested in
    let clear : (i : ℕ) → i < length slots → LooksReady n slots i → ⊥
    = λ i less look. none i (subst (λ (l : List Slot). i < length l) (sym g) less)
    (subst (λ (l : List Slot). LooksReady p l i) (sym g) (subst (λ m. LooksReady m slots i) (sym q) look)) in
    subst NoneIsDue e (none_is_ready n slots clear)

-- ---- handing out

pub ready_here : (nested : NestedParts) (slots : List Slot) (pipe : PipeParts) (j k : ℕ) → pipe_model nested slots ≡ pipe →
    IsReady (phases_in pipe.nested) pipe.marks j k → IsReady (phases_in nested) (map mark_of slots) j k
ready_here nested slots pipe j k e ready = subst (λ (p : PipeParts). IsReady (phases_in p.nested) p.marks j k) (sym e) ready

pub handing_keeps : (nested : NestedParts) (slots : List Slot) (pipe : PipeParts) (j k place : ℕ) (job : JobParts) → pipe_model nested slots ≡ pipe → IsKept nested slots →
    IsReady (phases_in pipe.nested) pipe.marks j k → IsJobAt (nested_of pipe.nested) j k (job_of job) → place ≡ j * phases_in nested + k →
    IsKept nested (slice_set slots place (slot.Out job))
handing_keeps nested slots pipe j k place job e kept ready own is =
    let here = ready_here nested slots pipe j k e ready in
    let mine = subst (λ (p : PipeParts). IsJobAt (nested_of p.nested) j k (job_of job)) (sym e) own in
    let waits = here.waits.1 in
    let P : ℕ → Type 0 = λ m. IsKept nested (slice_set slots m (slot.Out job)) in
    subst P (sym is) (kept_set nested slots j k (slot.Out job) kept here.waits.0 here.clear (λ filled. let full = filled.1 in absurd (cc (waits, full))) mine)

pub out_is_in_model : (nested : NestedParts) (slots : List Slot) (pipe : PipeParts) (j k place : ℕ) (job : JobParts) → pipe_model nested slots ≡ pipe →
    IsReady (phases_in pipe.nested) pipe.marks j k → place ≡ j * phases_in nested + k →
    IsAt (phases_in nested) (map mark_of (slice_set slots place (slot.Out job))) j k Out
out_is_in_model nested slots pipe j k place job e ready is =
    let here = ready_here nested slots pipe j k e ready in
    let at_place = j * phases_in nested + k in
    let less = read_within slots at_place Waiting here.waits.1 in
    let P : ℕ → Type 0 = λ m. IsAt (phases_in nested) (map mark_of (slice_set slots m (slot.Out job))) j k Out in
    subst P (sym is) (here.waits.0, model_at (slice_set slots at_place (slot.Out job)) at_place (slot.Out job) (at_own slots at_place (slot.Out job) less))

member_within : (j n k m : ℕ) → j * n + k < m * n → j < m
member_within j n k m less = by_order (cases_lt j m)
  where
    by_order : (j < m) ⊎ (m ≤ j) → j < m
    by_order (inl lt) = lt
    by_order (inr le) = let whole = mul-le m n j n le (omega arith) in absurd (omega (arith, whole, less))

-- There is room for a ready piece.
pub record HasRoom (nested : NestedParts) (slots : List Slot) (j k : ℕ) : Type 0 where
  pub member : j < members_in nested
  pub phase : k < phases_in nested
  pub below : j * phases_in nested ≤ length slots
  pub row : (j + 1) * phases_in nested ≤ length slots

pub room_for : (nested : NestedParts) (slots : List Slot) (pipe : PipeParts) (j k : ℕ) → pipe_model nested slots ≡ pipe → IsKept nested slots →
    IsReady (phases_in pipe.nested) pipe.marks j k → HasRoom nested slots j k
room_for nested slots pipe j k e kept ready =
    let n = phases_in nested in
    let here = ready_here nested slots pipe j k e ready in
    let less = read_within slots (j * n + k) Waiting here.waits.1 in
    let count = kept.count in
    let member = member_within j n k (members_in nested) (omega (arith, less, count)) in
    let whole = mul-le (j + 1) n (members_in nested) n (omega (arith, member)) (omega arith) in
    record {
      member = member;
      phase = here.waits.0;
      below = omega (arith, less);
      row = omega (arith, whole, count);
    }

-- ---- filling

pub filling_keeps : (nested : NestedParts) (slots : List Slot) (pipe : PipeParts) (j k place : ℕ) (job : JobParts) (written : Laid) → pipe_model nested slots ≡ pipe → IsKept nested slots →
    IsMarked pipe j k Out → IsJobAt (nested_of pipe.nested) j k (job_of job) → written.pairs ≡ piece_of_job (job_of job) → place ≡ j * phases_in nested + k →
    IsKept nested (slice_set slots place (slot.Filled job written))
filling_keeps nested slots pipe j k place job written e kept out own right is =
    let here = subst (λ (p : PipeParts). IsMarked p j k Out) (sym e) out in
    let mine = subst (λ (p : PipeParts). IsJobAt (nested_of p.nested) j k (job_of job)) (sym e) own in
    let now_out = here.1 in
    let P : ℕ → Type 0 = λ m. IsKept nested (slice_set slots m (slot.Filled job written)) in
    subst P (sym is) (kept_set nested slots j k (slot.Filled job written) kept here.0 (kept.order j k Out here refl)
    (λ filled. let full = filled.1 in absurd (cc (now_out, full))) (mine, right))

pub place_within : (nested : NestedParts) (slots : List Slot) (pipe : PipeParts) (j k place : ℕ) (mark : Mark) → pipe_model nested slots ≡ pipe →
    IsMarked pipe j k mark → place ≡ j * phases_in nested + k → place < length slots
place_within nested slots pipe j k place mark e marked is =
    let here = subst (λ (p : PipeParts). IsMarked p j k mark) (sym e) marked in
    let less = read_within slots (j * phases_in nested + k) mark here.1 in
    omega (arith, less, is)

-- ---- failing

drop_whole : {A : Type 0} (n : ℕ) (xs : List A) → length xs ≤ n → drop n xs ≡ []
drop_whole zero [] le = refl
drop_whole (suc n) [] le = refl
drop_whole zero (x ∷ xs) le = absurd (omega arith)
drop_whole (suc n) (x ∷ xs) le = drop_whole n xs (omega arith)

take_all_of : {A : Type 0} (n : ℕ) (xs : List A) → length xs ≤ n → take n xs ≡ xs
take_all_of zero [] le = refl
take_all_of (suc n) [] le = refl
take_all_of zero (x ∷ xs) le = absurd (omega arith)
take_all_of (suc n) (x ∷ xs) le = ap (λ l. x ∷ l) (take_all_of n xs (omega arith))

-- The slots after a write through a slice of all of them.
pub failing_whole : (slots given now : List Slot) (len p f h n j k : ℕ) → given ≡ slots → len ≡ length slots → p ≡ n → f ≡ j → h ≡ k →
    now ≡ changed_where (follows p f h) failed_slot 0 given →
    take len (now ++ drop (length now) slots) ≡ changed_where (follows n j k) failed_slot 0 slots
failing_whole slots given now len p f h n j k g l a b c is =
    let whole : now ≡ changed_where (follows n j k) failed_slot 0 slots
    = is ∙ ap (changed_where (follows p f h) failed_slot 0) g ∙ ap (λ m. changed_where (follows m f h) failed_slot 0 slots) a
    ∙ ap (λ m. changed_where (follows n m h) failed_slot 0 slots) b ∙ ap (λ m. changed_where (follows n j m) failed_slot 0 slots) c in
    let size : length now ≡ length slots = ap length whole ∙ changed_length (follows n j k) failed_slot 0 slots in
    ap (λ l. take len (now ++ l)) (drop_whole (length now) slots (omega (arith, size)))
    ∙ ap (take len) (append-nil now)
    ∙ take_all_of len now (omega (arith, size, l))
    ∙ whole

pub fails_here : (nested : NestedParts) (slots after : List Slot) (pipe : PipeParts) (j k : ℕ) → pipe_model nested slots ≡ pipe → IsKept nested slots →
    IsMarked pipe j k Out ⊎ IsDue pipe j k → after ≡ changed_where (follows (phases_in nested) j k) failed_slot 0 slots → FailsFrom (pipe_model nested after) j k
fails_here nested slots after pipe j k e kept open_one is i h mark member phase here =
    let n = phases_in nested in
    let marks = map mark_of slots in
    let P : PipeParts → Type 0 = λ p. IsMarked p j k Out ⊎ IsDue p j k in
    let told : map mark_of after ≡ changed_where (follows n j k) failed_mark 0 marks = ap (map mark_of) is ∙ failed_model slots (follows n j k) in
    fails_from n marks j k kept.order (subst P (sym e) open_one) i h mark member phase (subst (λ ms. IsAt n ms i h mark) told here)

-- A job that is handed out names the member and the phase that are due.
pub hands_out : (before : PipeParts) (job : JobParts) (after : PipeParts) (j k : ℕ) → IsDue before j k → IsJobAt (nested_of before.nested) j k (job_of job) →
    job.place ≡ j → job.phase ≡ k → after ≡ marked_pipe before j k Out → IsMarked after j k Out → HandsOut before job after
hands_out before job after j k due own a b marked out = record {
  due = subst (λ m. IsDue before m job.phase) (sym a) (subst (λ h. IsDue before j h) (sym b) due);
  own = subst (λ m. IsJobAt (nested_of before.nested) m job.phase (job_of job)) (sym a) (subst (λ h. IsJobAt (nested_of before.nested) j h (job_of job)) (sym b) own);
  marked = marked ∙ ap (λ h. marked_pipe before j h Out) (sym b) ∙ ap (λ m. marked_pipe before m job.phase Out) (sym a);
  out = subst (λ m. IsMarked after m job.phase Out) (sym a) (subst (λ h. IsMarked after j h Out) (sym b) out);
}
