-- The first piece of each member that was not handed out, and so which piece is due.
use Rattle.std.proofs.Common.{◌≡◌, ◌≢◌, ◌⊎◌, inl, inr, ℕ, zero, suc, ◌+◌, ◌-◌, ◌*◌, ◌%◌, ◌<◌, ◌≤◌, Bool, true, false, List, [], ◌∷◌, length, map, replicate, Some, refl, sym, ap, ◌∙◌, subst, arith, get_or, length-set}
use Rattle.std.specs.Prelude.{slice_get, slice_set, if◌then◌else◌, ◌↔◌}
use Rattle.std.proofs.lemmas.Bool.{cases_lt, cases_eq, false≢true}
use Rattle.std.proofs.lemmas.List.{get_or-set_same, get_or-set_other}
use Rattle.std.proofs.lemmas.Nat.{same_from_place, mod-mul-add, mul-le}
use Rattle.std.proofs.lemmas.Option.{same_Some}
use Rattle.join_book.proofs.BookLemmas.{at_other, at_same, at_replicate}
use Rattle.array_eval.specs.Overlays.{Laid}
use Rattle.array_jobs.specs.Jobs.{JobParts, job_of}
use Rattle.array_jobs.specs.PieceParts.{piece_of_job}
use Rattle.step_eval.specs.Nests.{NestedParts, nested_of}
use Rattle.pipe_sched.specs.declared.slot.Slot.{Slot}
use Rattle.pipe_sched.specs.declared.slot.Slot.TheVariants as slot
use Rattle.pipe_sched.specs.Slots.{Mark, Waiting, Barred, Out, Filled, Lost, PipeParts, phases_in, IsAt, IsReady, IsMarked, is_begun, failed_mark, changed_where}
use Rattle.pipe_sched.specs.Pipes.{IsJobAt}
use Rattle.pipe_sched.specs.Inside.{mark_of, AreNext, IsHeld, LooksReady}
use Rattle.pipe_sched.proofs.Places.{marked_read}
use Rattle.pipe_sched.proofs.Changes.{changed_back}
use Rattle.pipe_sched.proofs.Kept.{pipe_model, set_model}
use Rattle.pipe_sched.proofs.Told.{ready_here, room_for, handing_keeps, filling_keeps}

-- ---- which piece can be due

-- Of a member, only the first piece that wasn't handed out looks ready.
only_next : (n : ℕ) (slots : List Slot) (next : List ℕ) (m h : ℕ) → AreNext n (map mark_of slots) next → h < n → m * n + h < length slots →
    LooksReady n slots (m * n + h) → h ≡ get_or next m 0
only_next n slots next m h are small there look = by_next (cases_lt h (get_or next m 0)) (cases_eq h (get_or next m 0))
  where
    waits : h < get_or next m 0 → ⊥
    waits less = false≢true ((are m h Waiting (small, marked_read slots (m * n + h) Waiting there look.waits)).1 less)

    begun : get_or next m 0 < h → ⊥
    begun more =
        let phase : (m * n + h) % n ≡ h = mod-mul-add m n h small in
        let earlier = look.earlier (subst (λ k. 0 < k) (sym phase) (omega arith)) in
        let place : m * n + (h - 1) ≡ m * n + h - 1 = omega (arith, more) in
        let filled : slice_get (map mark_of slots) (m * n + (h - 1)) ≡ Some Filled
        = ap (slice_get (map mark_of slots)) place ∙ marked_read slots (m * n + h - 1) Filled (omega (arith, there)) earlier in
        let less = (are m (h - 1) Filled (omega (arith, small), filled)).0 refl in
        omega (arith, less, more)

    by_next : (h < get_or next m 0) ⊎ (get_or next m 0 ≤ h) → (h ≡ get_or next m 0) ⊎ (h ≢ get_or next m 0) → h ≡ get_or next m 0
    by_next (inl less) other = absurd (waits less)
    by_next (inr le) (inl e) = e
    by_next (inr le) (inr ne) = absurd (begun (omega arith))

-- There is room for the slots of a member.
pub row_within : (m n count size : ℕ) → m < count → size ≡ count * n → m * n + n ≤ size
row_within m n count size less e =
    let whole : suc m * n ≤ count * n = mul-le (suc m) n count n (omega arith) (omega arith) in
    let row : suc m * n ≡ m * n + n = omega arith in
    omega (arith, whole, row, e)

-- If that piece doesn't look ready, none of the member does.
pub none_in_row : (n : ℕ) (slots : List Slot) (next : List ℕ) (m p : ℕ) → AreNext n (map mark_of slots) next → m * n + n ≤ length slots → p ≡ get_or next m 0 →
    (p < n → LooksReady n slots (m * n + p) → ⊥) → ((i : ℕ) → i < m * n → LooksReady n slots i → ⊥) →
    (i : ℕ) → i < (m + 1) * n → LooksReady n slots i → ⊥
none_in_row n slots next m p are room is other before i less look = by_row (cases_lt i (m * n))
  where
    row : (m + 1) * n ≡ m * n + n
    row = omega arith

    by_row : (i < m * n) ⊎ (m * n ≤ i) → ⊥
    by_row (inl lower) = before i lower look
    by_row (inr le) =
        let h = i - m * n in
        let place : i ≡ m * n + h = omega (arith, le) in
        let small : h < n = omega (arith, row, less, le) in
        let here : LooksReady n slots (m * n + h) = subst (LooksReady n slots) place look in
        let same : h ≡ p = only_next n slots next m h are small (omega (arith, place, small, room)) here ∙ sym is in
        other (subst (λ k. k < n) same small) (subst (λ k. LooksReady n slots (m * n + k)) same here)

-- If that piece looks ready, none before it does.
pub none_before_next : (n : ℕ) (slots : List Slot) (next : List ℕ) (m p place : ℕ) → AreNext n (map mark_of slots) next → m * n + n ≤ length slots → p ≡ get_or next m 0 →
    place ≡ m * n + p → p < n → ((i : ℕ) → i < m * n → LooksReady n slots i → ⊥) →
    (i : ℕ) → i < place → LooksReady n slots i → ⊥
none_before_next n slots next m p place are room is at less before i lower look = by_row (cases_lt i (m * n))
  where
    row : (m + 1) * n ≡ m * n + n
    row = omega arith

    by_row : (i < m * n) ⊎ (m * n ≤ i) → ⊥
    by_row (inl first) = before i first look
    by_row (inr le) =
        let h = i - m * n in
        let same_place : i ≡ m * n + h = omega (arith, le) in
        let early : h < p = omega (arith, lower, at, le) in
        let here : LooksReady n slots (m * n + h) = subst (LooksReady n slots) same_place look in
        let same = only_next n slots next m h are (omega (arith, early, less)) (omega (arith, room, early, less)) here in
        omega (arith, same, is, early)

-- ---- slots change

pub next_new : (n count m : ℕ) (marks : List Mark) → marks ≡ replicate count Waiting → AreNext n marks (replicate m 0)
next_new n count m marks e j k mark here =
    let same : mark ≡ Waiting = at_replicate count (j * n + k) Waiting mark (subst (λ l. slice_get l (j * n + k) ≡ Some mark) e here.1) in (
      λ begun. absurd (cc (same, begun)),
      λ less. absurd (let none = zeros m j in omega (arith, none, less)),
    )
  where
    zeros : (m j : ℕ) → get_or {A = ℕ} (replicate m 0) j 0 ≡ 0
    zeros zero j = refl
    zeros (suc m) zero = refl
    zeros (suc m) (suc j) = zeros m j

-- A ready piece is handed out.
pub next_out : (n : ℕ) (marks : List Mark) (next : List ℕ) (j k : ℕ) → AreNext n marks next → IsReady n marks j k → j < length next →
    AreNext n (slice_set marks (j * n + k) Out) (slice_set next j (k + 1))
next_out n marks next j k are ready there i h mark here = by_place (cases_eq (i * n + h) (j * n + k))
  where
    own : get_or (slice_set next j (k + 1)) j 0 ≡ k + 1
    own = get_or-set_same next j (k + 1) 0 there

    late : get_or next j 0 ≤ k
    late = by_order (cases_lt k (get_or next j 0))
      where
        by_order : (k < get_or next j 0) ⊎ (get_or next j 0 ≤ k) → get_or next j 0 ≤ k
        by_order (inl less) = absurd (false≢true ((are j k Waiting ready.waits).1 less))
        by_order (inr le) = le

    by_phase : (b : ℕ) → slice_get marks (j * n + b) ≡ Some mark → b < n → b ≢ k → (b < k) ⊎ (k ≤ b) → (is_begun mark ≡ true) ↔ (b < k + 1)
    by_phase b was small ne (inl less) =
        let filled = ready.clear j b (record { member = omega arith; phase = omega arith; other = inr less }) in
        let same : mark ≡ Filled = same_Some mark Filled (sym was ∙ filled.1) in
        (λ begun. omega (arith, less), λ lower. ap is_begun same)
    by_phase b was small ne (inr le) =
        let old = are j b mark (small, was) in
        (λ begun. absurd (let less = old.0 begun in omega (arith, less, late, le, ne)), λ lower. absurd (omega (arith, lower, le, ne)))

    by_member : (i * n + h ≢ j * n + k) → (i ≡ j) ⊎ (i ≢ j) → (is_begun mark ≡ true) ↔ (h < get_or (slice_set next j (k + 1)) i 0)
    by_member ne (inr other) =
        let was : IsAt n marks i h mark = (here.0, sym (at_other marks (j * n + k) (i * n + h) Out ne) ∙ here.1) in
        subst (λ (p : ℕ). (is_begun mark ≡ true) ↔ (h < p)) (sym (get_or-set_other next j i (k + 1) 0 other)) (are i h mark was)
    by_member ne (inl e) =
        let was : slice_get marks (i * n + h) ≡ Some mark = sym (at_other marks (j * n + k) (i * n + h) Out ne) ∙ here.1 in
        let at_j : slice_get marks (j * n + h) ≡ Some mark = subst (λ a. slice_get marks (a * n + h) ≡ Some mark) e was in
        let apart : h ≢ k = λ same. ne (ap (λ a. a * n + h) e ∙ ap (λ b. j * n + b) same) in
        let P : ℕ → Type 0 = λ a. (is_begun mark ≡ true) ↔ (h < get_or (slice_set next j (k + 1)) a 0) in
        subst P (sym e) (subst (λ (p : ℕ). (is_begun mark ≡ true) ↔ (h < p)) (sym own) (by_phase h at_j here.0 apart (cases_lt h k)))

    by_place : (i * n + h ≡ j * n + k) ⊎ (i * n + h ≢ j * n + k) → (is_begun mark ≡ true) ↔ (h < get_or (slice_set next j (k + 1)) i 0)
    by_place (inl e) =
        let same = same_from_place i h j k n here.0 ready.waits.0 e in
        let it : mark ≡ Out = at_same marks (j * n + k) Out mark (subst (λ p. slice_get (slice_set marks (j * n + k) Out) p ≡ Some mark) e here.1) in
        let less : k < get_or (slice_set next j (k + 1)) j 0 = omega (arith, own) in
        let P : ℕ → Type 0 = λ a. (is_begun mark ≡ true) ↔ (h < get_or (slice_set next j (k + 1)) a 0) in
        let Q : ℕ → Type 0 = λ b. (is_begun mark ≡ true) ↔ (b < get_or (slice_set next j (k + 1)) j 0) in
        let done : (is_begun mark ≡ true) ↔ (k < get_or (slice_set next j (k + 1)) j 0) = (λ begun. less, λ lower. ap is_begun it) in
        subst P (sym same.0) (subst Q (sym same.1) done)
    by_place (inr ne) = by_member ne (cases_eq i j)

-- A piece that is out is filled.
pub next_filled : (n : ℕ) (marks : List Mark) (next : List ℕ) (j k : ℕ) → AreNext n marks next → IsAt n marks j k Out →
    AreNext n (slice_set marks (j * n + k) Filled) next
next_filled n marks next j k are out i h mark here = by_place (cases_eq (i * n + h) (j * n + k))
  where
    by_place : (i * n + h ≡ j * n + k) ⊎ (i * n + h ≢ j * n + k) → (is_begun mark ≡ true) ↔ (h < get_or next i 0)
    by_place (inl e) =
        let same = same_from_place i h j k n here.0 out.0 e in
        let it : mark ≡ Filled = at_same marks (j * n + k) Filled mark (subst (λ p. slice_get (slice_set marks (j * n + k) Filled) p ≡ Some mark) e here.1) in
        let less = (are j k Out out).0 refl in
        let there : h < get_or next i 0 = subst (λ a. h < get_or next a 0) (sym same.0) (subst (λ b. b < get_or next j 0) (sym same.1) less) in
        (λ begun. there, λ lower. ap is_begun it)
    by_place (inr ne) = are i h mark (here.0, sym (at_other marks (j * n + k) (i * n + h) Filled ne) ∙ here.1)

-- Pieces fail.
begun_as : (b : Bool) (m : Mark) → is_begun (if b then failed_mark m else m) ≡ is_begun m
begun_as false m = refl
begun_as true Waiting = refl
begun_as true Barred = refl
begun_as true Out = refl
begun_as true Filled = refl
begun_as true Lost = refl

pub next_failed : (n : ℕ) (marks : List Mark) (next : List ℕ) (test : ℕ → Bool) → AreNext n marks next → AreNext n (changed_where test failed_mark 0 marks) next
next_failed n marks next test are i h mark here =
    let back = changed_back test failed_mark 0 marks (i * n + h) mark here.1 in
    let same : is_begun mark ≡ is_begun back.0 = ap is_begun back.2 ∙ begun_as (test (0 + (i * n + h))) back.0 in
    let old = are i h back.0 (here.0, back.1) in
    (λ begun. old.0 (sym same ∙ begun), λ lower. same ∙ old.1 lower)

-- ---- the type's invariant

-- A ready piece is handed out.
pub handing_holds : (nested : NestedParts) (slots : List Slot) (next : List ℕ) (pipe : PipeParts) (j k place f v : ℕ) (job : JobParts) → pipe_model nested slots ≡ pipe →
    IsHeld nested slots next → IsReady (phases_in pipe.nested) pipe.marks j k → IsJobAt (nested_of pipe.nested) j k (job_of job) → place ≡ j * phases_in nested + k →
    f ≡ j → v ≡ k + 1 → IsHeld nested (slice_set slots place (slot.Out job)) (slice_set next f v)
handing_holds nested slots next pipe j k place f v job e held ready own is g h =
    let n = phases_in nested in
    let here = ready_here nested slots pipe j k e ready in
    let room = room_for nested slots pipe j k e held.kept ready in
    let count = held.members in
    let member = room.member in
    let there : j < length next = omega (arith, count, member) in
    let marks : map mark_of (slice_set slots place (slot.Out job)) ≡ slice_set (map mark_of slots) (j * n + k) Out
    = ap (λ p. map mark_of (slice_set slots p (slot.Out job))) is ∙ set_model slots (j * n + k) (slot.Out job) Out refl in
    let after : slice_set next j (k + 1) ≡ slice_set next f v = ap (λ m. slice_set next m (k + 1)) (sym g) ∙ ap (slice_set next f) (sym h) in
    record {
      kept = handing_keeps nested slots pipe j k place job e held.kept ready own is;
      members = length-set next f v ∙ count;
      begun = subst (λ ms. AreNext n ms (slice_set next f v)) (sym marks)
          (subst (λ l. AreNext n (slice_set (map mark_of slots) (j * n + k) Out) l) after
          (next_out n (map mark_of slots) next j k held.begun here there));
    }

-- A piece that is out is filled.
pub filling_holds : (nested : NestedParts) (slots : List Slot) (next : List ℕ) (pipe : PipeParts) (j k place : ℕ) (job : JobParts) (written : Laid) → pipe_model nested slots ≡ pipe →
    IsHeld nested slots next → IsMarked pipe j k Out → IsJobAt (nested_of pipe.nested) j k (job_of job) → written.pairs ≡ piece_of_job (job_of job) → place ≡ j * phases_in nested + k →
    IsHeld nested (slice_set slots place (slot.Filled job written)) next
filling_holds nested slots next pipe j k place job written e held out own right is =
    let n = phases_in nested in
    let here = subst (λ (p : PipeParts). IsMarked p j k Out) (sym e) out in
    let marks : map mark_of (slice_set slots place (slot.Filled job written)) ≡ slice_set (map mark_of slots) (j * n + k) Filled
    = ap (λ p. map mark_of (slice_set slots p (slot.Filled job written))) is ∙ set_model slots (j * n + k) (slot.Filled job written) Filled refl in
    record {
      kept = filling_keeps nested slots pipe j k place job written e held.kept out own right is;
      members = held.members;
      begun = subst (λ ms. AreNext n ms next) (sym marks) (next_filled n (map mark_of slots) next j k held.begun here);
    }
