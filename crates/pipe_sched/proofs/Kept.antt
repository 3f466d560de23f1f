-- The invariant of a pipeline, as its slots change.
use Rattle.std.proofs.Common.{◌≡◌, ◌≢◌, ◌⊎◌, inl, inr, ℕ, zero, suc, ◌+◌, ◌*◌, ◌<◌, ◌≤◌, Bool, true, false, List, [], ◌∷◌, length, map, replicate, Some, refl, sym, ap, ◌∙◌, subst, arith, length-set}
use Rattle.std.specs.Prelude.{slice_get, slice_set, if◌then◌else◌}
use Rattle.std.specs.Option.{option_map}
use Rattle.std.proofs.lemmas.Bool.{cases_eq}
use Rattle.std.proofs.lemmas.Nat.{same_from_place, div-mul-add, mod-mul-add}
use Rattle.std.proofs.lemmas.Option.{slice_get-map, same_Some}
use Rattle.std.proofs.lemmas.List.{length-replicate, map-set}
use Rattle.array_tree.specs.Trees.{statement_of}
use Rattle.join_book.proofs.BookLemmas.{at_other, at_same, at_replicate}
use Rattle.step_eval.specs.declared.shape.Kind.TheVariants as kind
use Rattle.step_eval.specs.Nests.{NestedParts, NestedTree, nested_of, IsFitNest}
use Rattle.step_eval.specs.Shapes.{kind_of}
use Rattle.pipe_sched.specs.declared.slot.Slot.{Slot}
use Rattle.pipe_sched.specs.declared.slot.Slot.TheVariants as slot
use Rattle.pipe_sched.specs.Slots.{Mark, Waiting, Barred, Out, Filled, Lost, PipeParts, phases_in, members_in, IsAt, IsClear, IsFirst, is_begun, is_failed, failed_mark, follows, changed_where}
use Rattle.pipe_sched.specs.Inside.{mark_of, failed_slot, IsRight, AreInOrder, IsKept}
use Rattle.pipe_sched.proofs.Places.{filled_up_to, it_follows}
use Rattle.pipe_sched.proofs.Changes.{changed_back, changed_at, changed_length, changed_map}

-- The model of a pipeline, by its construct and slots.
abbrev pub pipe_model : NestedParts → List Slot → PipeParts
pipe_model nested slots = record { nested = nested; marks = map mark_of slots }

-- ---- facts on a slot

pub model_at : (slots : List Slot) (i : ℕ) (own : Slot) → slice_get slots i ≡ Some own → slice_get (map mark_of slots) i ≡ Some (mark_of own)
model_at slots i own e = slice_get-map mark_of slots i ∙ ap (option_map mark_of) e

pub held_at : (slots : List Slot) (i : ℕ) (mark : Mark) → slice_get (map mark_of slots) i ≡ Some mark →
    (own : Slot) × (slice_get slots i ≡ Some own) × (mark_of own ≡ mark)
held_at [] i mark e = absurd (cc)
held_at (s ∷ slots) zero mark e = (s, refl, same_Some (mark_of s) mark e)
held_at (s ∷ slots) (suc i) mark e = held_at slots i mark e

-- ---- a new pipeline

waiting_marks : (n : ℕ) → map mark_of (replicate n slot.Waiting) ≡ replicate n Waiting
waiting_marks zero = refl
waiting_marks (suc n) = ap (λ ms. Waiting ∷ ms) (waiting_marks n)

pub new_model : (slots : List Slot) (n : ℕ) → slots ≡ replicate n slot.Waiting → map mark_of slots ≡ replicate n Waiting
new_model slots n e = ap (map mark_of) e ∙ waiting_marks n

pub kept_new : (nested : NestedParts) (slots : List Slot) → kind_of (statement_of nested.construct) ≡ Some kind.Team → IsFitNest (nested_of nested) →
    slots ≡ replicate (members_in nested * phases_in nested) slot.Waiting → IsKept nested slots
kept_new nested slots team fit e =
    let count = members_in nested * phases_in nested in
    record {
      team = team;
      fit = fit;
      count = ap length e ∙ length-replicate count slot.Waiting;
      right = λ j k own less here.
          let P : List Slot → Type 0 = λ l. slice_get l (j * phases_in nested + k) ≡ Some own in
          let same = at_replicate count (j * phases_in nested + k) slot.Waiting own (subst P e here) in
          subst (IsRight (nested_of nested) j k) (sym same) tt;
      order = λ j k mark here begun.
          let Q : List Mark → Type 0 = λ l. slice_get l (j * phases_in nested + k) ≡ Some mark in
          let same : mark ≡ Waiting = at_replicate count (j * phases_in nested + k) Waiting mark (subst Q (new_model slots count e) here.1) in
          absurd (cc (same, begun));
    }

-- ---- one slot changes

-- A filled slot stays filled.
filled_stays : (n : ℕ) (marks : List Mark) (j k i h : ℕ) (mark : Mark) → k < n → (IsAt n marks j k Filled → ⊥) → IsAt n marks i h Filled →
    IsAt n (slice_set marks (j * n + k) mark) i h Filled
filled_stays n marks j k i h mark less other filled = (filled.0, by_place (cases_eq (i * n + h) (j * n + k)))
  where
    by_place : (i * n + h ≡ j * n + k) ⊎ (i * n + h ≢ j * n + k) → slice_get (slice_set marks (j * n + k) mark) (i * n + h) ≡ Some Filled
    by_place (inl e) = absurd (other (less, sym (ap (slice_get marks) e) ∙ filled.1))
    by_place (inr ne) = at_other marks (j * n + k) (i * n + h) mark ne ∙ filled.1

order_set : (n : ℕ) (marks : List Mark) (j k : ℕ) (mark : Mark) → k < n → AreInOrder n marks → IsClear n marks j k → (IsAt n marks j k Filled → ⊥) →
    AreInOrder n (slice_set marks (j * n + k) mark)
order_set n marks j k mark less order clear other i h m here begun = by_place (cases_eq (i * n + h) (j * n + k))
  where
    by_place : (i * n + h ≡ j * n + k) ⊎ (i * n + h ≢ j * n + k) → IsClear n (slice_set marks (j * n + k) mark) i h
    by_place (inl e) =
        let same = same_from_place i h j k n here.0 less e in
        λ a b before.
        filled_stays n marks j k a b mark less other
        (clear a b (record {
          member = subst (λ m. a ≤ m) same.0 before.member;
          phase = subst (λ m. b ≤ m) same.1 before.phase;
          other = subst (λ m. (a < m) ⊎ (b < k)) same.0 (subst (λ m. (a < i) ⊎ (b < m)) same.1 before.other);
        }))
    by_place (inr ne) =
        λ a b before.
        filled_stays n marks j k a b mark less other
        (order i h m (here.0, sym (at_other marks (j * n + k) (i * n + h) mark ne) ∙ here.1) begun a b before)

pub kept_set : (nested : NestedParts) (slots : List Slot) (j k : ℕ) (own : Slot) → IsKept nested slots → k < phases_in nested →
    IsClear (phases_in nested) (map mark_of slots) j k → (IsAt (phases_in nested) (map mark_of slots) j k Filled → ⊥) → IsRight (nested_of nested) j k own →
    IsKept nested (slice_set slots (j * phases_in nested + k) own)
kept_set nested slots j k own kept less clear other right = record {
  team = kept.team;
  fit = kept.fit;
  count = length-set slots place own ∙ kept.count;
  right = λ i h s small here. by_place i h s small here (cases_eq (i * n + h) place);
  order = subst (AreInOrder n) (sym (map-set mark_of slots place own)) (order_set n (map mark_of slots) j k (mark_of own) less kept.order clear other);
}
  where
    n : ℕ
    n = phases_in nested

    place : ℕ
    place = j * phases_in nested + k

    by_place : (i h : ℕ) (s : Slot) → h < phases_in nested → slice_get (slice_set slots (j * phases_in nested + k) own) (i * phases_in nested + h) ≡ Some s →
        (i * phases_in nested + h ≡ j * phases_in nested + k) ⊎ (i * phases_in nested + h ≢ j * phases_in nested + k) → IsRight (nested_of nested) i h s
    by_place i h s small here (inl e) =
        let same = same_from_place i h j k (phases_in nested) small less e in
        let P : ℕ → Type 0 = λ p. slice_get (slice_set slots (j * phases_in nested + k) own) p ≡ Some s in
        let it : s ≡ own = at_same slots (j * phases_in nested + k) own s (subst P e here) in
        subst (λ m. IsRight (nested_of nested) m h s) (sym same.0)
        (subst (λ p. IsRight (nested_of nested) j p s) (sym same.1)
        (subst (IsRight (nested_of nested) j k) (sym it) right))
    by_place i h s small here (inr ne) =
        kept.right i h s small (sym (at_other slots (j * phases_in nested + k) (i * phases_in nested + h) own ne) ∙ here)

-- The model of the slots after one changed.
pub set_model : (slots : List Slot) (place : ℕ) (own : Slot) (mark : Mark) → mark_of own ≡ mark →
    map mark_of (slice_set slots place own) ≡ slice_set (map mark_of slots) place mark
set_model slots place own mark e = map-set mark_of slots place own ∙ ap (slice_set (map mark_of slots) place) e

-- ---- slots fail

begun_back : (b : Bool) (m : Mark) → is_begun (if b then failed_mark m else m) ≡ true → is_begun m ≡ true
begun_back false m e = e
begun_back true Waiting e = cc
begun_back true Barred e = cc
begun_back true Out e = refl
begun_back true Filled e = refl
begun_back true Lost e = refl

filled_kept : (b : Bool) → (if b then failed_mark Filled else Filled) ≡ Filled
filled_kept true = refl
filled_kept false = refl

filled_through : (n : ℕ) (marks : List Mark) (test : ℕ → Bool) (i h : ℕ) → IsAt n marks i h Filled → IsAt n (changed_where test failed_mark 0 marks) i h Filled
filled_through n marks test i h filled =
    (filled.0, changed_at test failed_mark 0 marks (i * n + h) Filled filled.1 ∙ ap Some (filled_kept (test (0 + (i * n + h)))))

order_failed : (n : ℕ) (marks : List Mark) (test : ℕ → Bool) → AreInOrder n marks → AreInOrder n (changed_where test failed_mark 0 marks)
order_failed n marks test order i h m here begun =
    let back = changed_back test failed_mark 0 marks (i * n + h) m here.1 in
    let b = test (0 + (i * n + h)) in
    let was = begun_back b back.0 (ap is_begun (sym back.2) ∙ begun) in
    λ a c before. filled_through n marks test a c (order i h back.0 (here.0, back.1) was a c before)

right_failed : (nested : NestedTree) (j k : ℕ) (b : Bool) (own : Slot) → IsRight nested j k own → IsRight nested j k (if b then failed_slot own else own)
right_failed nested j k false own right = right
right_failed nested j k true slot.Waiting right = tt
right_failed nested j k true slot.Barred right = tt
right_failed nested j k true (slot.Out job) right = right
right_failed nested j k true (slot.Filled job written) right = right
right_failed nested j k true (slot.Lost job) right = right

marks_fail : (own : Slot) → mark_of (failed_slot own) ≡ failed_mark (mark_of own)
marks_fail slot.Waiting = refl
marks_fail slot.Barred = refl
marks_fail (slot.Out job) = refl
marks_fail (slot.Filled job written) = refl
marks_fail (slot.Lost job) = refl

pub failed_model : (slots : List Slot) (test : ℕ → Bool) →
    map mark_of (changed_where test failed_slot 0 slots) ≡ changed_where test failed_mark 0 (map mark_of slots)
failed_model slots test = changed_map test failed_slot failed_mark mark_of marks_fail 0 slots

pub kept_failed : (nested : NestedParts) (slots : List Slot) (test : ℕ → Bool) → IsKept nested slots → IsKept nested (changed_where test failed_slot 0 slots)
kept_failed nested slots test kept = record {
  team = kept.team;
  fit = kept.fit;
  count = changed_length test failed_slot 0 slots ∙ kept.count;
  right = λ j k own less here.
      let place = j * phases_in nested + k in
      let back = changed_back test failed_slot 0 slots place own here in
      subst (IsRight (nested_of nested) j k) (sym back.2)
      (right_failed (nested_of nested) j k (test (0 + place)) back.0 (kept.right j k back.0 less back.1));
  order = subst (AreInOrder (phases_in nested)) (sym (failed_model slots test)) (order_failed (phases_in nested) (map mark_of slots) test kept.order);
}

-- ---- where failures begin

not_filled : (n : ℕ) (marks : List Mark) (j k : ℕ) → IsAt n marks j k Out ⊎ IsFirst n marks j k → IsAt n marks j k Filled → ⊥
not_filled n marks j k (inl out) filled = absurd (cc (out.1, filled.1))
not_filled n marks j k (inr due) filled = absurd (cc (due.ready.waits.1, filled.1))

pub it_follows_at : (n j k i h : ℕ) → h < n → j ≤ i → k ≤ h → follows n j k (0 + (i * n + h)) ≡ true
it_follows_at n j k i h small member phase =
    let none : 0 + (i * n + h) ≡ i * n + h = omega arith in
    let row = div-mul-add i n h small in
    let column = mod-mul-add i n h small in
    ap (follows n j k) none ∙ it_follows n j k (i * n + h) (omega (arith, row, member)) (omega (arith, column, phase))

-- If a piece that is out or due fails, all pieces that come after it do.
pub fails_from : (n : ℕ) (marks : List Mark) (j k : ℕ) → AreInOrder n marks → IsAt n marks j k Out ⊎ IsFirst n marks j k →
    (i h : ℕ) (mark : Mark) → j ≤ i → k ≤ h → IsAt n (changed_where (follows n j k) failed_mark 0 marks) i h mark → is_failed mark ≡ true
fails_from n marks j k order open_one i h mark member phase here =
    let back = changed_back (follows n j k) failed_mark 0 marks (i * n + h) mark here.1 in
    let test = it_follows_at n j k i h here.0 member phase in
    let is : mark ≡ failed_mark back.0 = back.2 ∙ ap (λ b. if b then failed_mark back.0 else back.0) test in
    ap is_failed is ∙ by_mark back.0 (here.0, back.1)
  where
    by_mark : (m : Mark) → IsAt n marks i h m → is_failed (failed_mark m) ≡ true
    by_mark Waiting was = refl
    by_mark Barred was = refl
    by_mark Out was = refl
    by_mark Filled was = absurd (not_filled n marks j k open_one (filled_up_to n marks i h order was j k member phase))
    by_mark Lost was = refl
