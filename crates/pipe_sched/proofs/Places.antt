-- Indices of slots, by member and phase, and which piece is due.
use Rattle.std.proofs.Common.{◌≡◌, ◌≢◌, ◌⊎◌, inl, inr, ℕ, zero, suc, ◌+◌, ◌-◌, ◌*◌, ◌/◌, ◌%◌, ◌<◌, ◌≤◌, Bool, true, false, List, [], ◌∷◌, length, map, Some, refl, sym, ap, ◌∙◌, subst, arith}
use Rattle.std.specs.Prelude.{slice_get, nat_le, ◌&&◌}
use borrow.Author.Tests.{le-leb, lt-leb}
use Rattle.std.specs.Option.{option_map}
use Rattle.std.proofs.lemmas.Bool.{cases_lt, cases_eq}
use Rattle.std.proofs.lemmas.Nat.{div-add-mod', mod_below, mod-mul-add, mul-le}
use Rattle.std.proofs.lemmas.Option.{slice_get-map, slice_get-get_or, slice_get_within, same_Some}
use Rattle.std.proofs.lemmas.List.{length-map}
use Rattle.pipe_sched.specs.declared.slot.Slot.{Slot}
use Rattle.pipe_sched.specs.declared.slot.Slot.TheVariants as slot
use Rattle.pipe_sched.specs.Slots.{Mark, Waiting, Filled, IsAt, IsClear, IsReady, IsFirst, follows}
use Rattle.pipe_sched.specs.Inside.{mark_of, AreInOrder, mark_at, LooksReady}

-- ---- the member and the phase of an index

pub same_place : (n i : ℕ) → (i / n) * n + i % n ≡ i
same_place n i = div-add-mod' i n

-- The slot of the member below is n indices before.
pub place_below : (n q r i : ℕ) → 0 < q → q * n + r ≡ i → ((q - 1) * n + r ≡ i - n) × (n ≤ i)
place_below n zero r i some e = absurd (omega arith)
place_below n (suc p) r i some e =
    let back : suc p - 1 ≡ p = omega arith in
    let row : suc p * n ≡ p * n + n = omega arith in
    let first : p * n + r ≡ i - n = omega (arith, row, e) in
    (ap (λ q. q * n + r) back ∙ first, omega (arith, row, e))

-- The indices are in the order of members, and then of phases.
pub in_order : (n q r i h : ℕ) → r < n → h < n → q * n + r ≤ i * n + h → (q < i) ⊎ ((q ≡ i) × (r ≤ h))
in_order n q r i h small less le = by_member (cases_lt q i) (cases_eq q i)
  where
    by_member : (q < i) ⊎ (i ≤ q) → (q ≡ i) ⊎ (q ≢ i) → (q < i) ⊎ ((q ≡ i) × (r ≤ h))
    by_member (inl lt) other = inl lt
    by_member (inr ge) (inl e) = let same : q * n ≡ i * n = ap (λ m. m * n) e in inr (e, omega (arith, same, le))
    by_member (inr ge) (inr ne) =
        let above : suc i ≤ q = omega arith in
        let whole : suc i * n ≤ q * n = mul-le (suc i) n q n above (omega arith) in
        let row : suc i * n ≡ i * n + n = omega arith in
        absurd (omega (arith, whole, row, le, less))

-- ---- marks

pub marked_read : (slots : List Slot) (i : ℕ) (mark : Mark) → i < length slots → mark_at slots i ≡ mark → slice_get (map mark_of slots) i ≡ Some mark
marked_read slots i mark less e =
    slice_get-map mark_of slots i ∙ ap (option_map mark_of) (slice_get-get_or slots i slot.Barred less) ∙ ap Some e

pub read_marked : (slots : List Slot) (i : ℕ) (mark : Mark) → slice_get (map mark_of slots) i ≡ Some mark → mark_at slots i ≡ mark
read_marked [] i mark e = absurd (cc)
read_marked (s ∷ slots) zero mark e = same_Some (mark_of s) mark e
read_marked (s ∷ slots) (suc i) mark e = read_marked slots i mark e

pub read_within : (slots : List Slot) (i : ℕ) (mark : Mark) → slice_get (map mark_of slots) i ≡ Some mark → i < length slots
read_within slots i mark e = let less = slice_get_within (map mark_of slots) i mark e in let same = length-map slots mark_of in omega arith

-- ---- the pieces that come before

-- A piece and all pieces before it are filled.
pub filled_up_to : (n : ℕ) (marks : List Mark) (j k : ℕ) → AreInOrder n marks → IsAt n marks j k Filled →
    (i h : ℕ) → i ≤ j → h ≤ k → IsAt n marks i h Filled
filled_up_to n marks j k order here i h le_i le_h = pick (cases_eq i j) (cases_eq h k)
  where
    pick : (i ≡ j) ⊎ (i ≢ j) → (h ≡ k) ⊎ (h ≢ k) → IsAt n marks i h Filled
    pick (inl e) (inl f) =
        let P : ℕ → Type 0 = λ m. IsAt n marks m h Filled in
        let Q : ℕ → Type 0 = λ p. IsAt n marks j p Filled in
        subst P (sym e) (subst Q (sym f) here)
    pick (inl e) (inr ne) = order j k Filled here refl i h (record { member = le_i; phase = le_h; other = inr (omega arith) })
    pick (inr ne) other = order j k Filled here refl i h (record { member = le_i; phase = le_h; other = inl (omega arith) })

-- If the two pieces right before a piece are filled, all pieces before it are.
pub clear_from : (n : ℕ) (marks : List Mark) (j k : ℕ) → AreInOrder n marks →
    (0 < k → IsAt n marks j (k - 1) Filled) → (0 < j → IsAt n marks (j - 1) k Filled) → IsClear n marks j k
clear_from n marks j k order earlier below i h before = by_phase (cases_lt h k)
  where
    by_phase : (h < k) ⊎ (k ≤ h) → IsAt n marks i h Filled
    by_phase (inl lt) = filled_up_to n marks j (k - 1) order (earlier (omega arith)) i h before.member (omega arith)
    by_phase (inr ge) =
        let other = before.other in
        let le = before.phase in
        let lower : i < j = by_other other in
        filled_up_to n marks (j - 1) k order (below (omega arith)) i h (omega arith) le
      where
        by_other : (i < j) ⊎ (h < k) → i < j
        by_other (inl lt) = lt
        by_other (inr lt) = absurd (omega arith)

-- ---- the test of a slot

pub ready_from_look : (n : ℕ) (slots : List Slot) (i : ℕ) → 0 < n → i < length slots → AreInOrder n (map mark_of slots) → LooksReady n slots i →
    IsReady n (map mark_of slots) (i / n) (i % n)
ready_from_look n slots i some less order look =
    let marks = map mark_of slots in
    let q = i / n in
    let r = i % n in
    let here = same_place n i in
    let small = mod_below i n some in
    record {
      waits = (small, ap (slice_get marks) here ∙ marked_read slots i Waiting less look.waits);
      clear = clear_from n marks q r order
          (λ later.
          let place : q * n + (r - 1) ≡ i - 1 = omega (arith, here, later) in
          let smaller : r - 1 < n = omega (arith, small) in
          (smaller, ap (slice_get marks) place ∙ marked_read slots (i - 1) Filled (omega (arith, less)) (look.earlier later)))
          (λ higher.
          let place = place_below n q r i higher here in
          let lower : i - n < length slots = omega (arith, less) in
          (small, ap (slice_get marks) place.0 ∙ marked_read slots (i - n) Filled lower (look.below place.1)));
    }

pub look_from_ready : (n : ℕ) (slots : List Slot) (j k : ℕ) → IsReady n (map mark_of slots) j k → LooksReady n slots (j * n + k)
look_from_ready n slots j k ready =
    let small = ready.waits.0 in
    let phase : (j * n + k) % n ≡ k = mod-mul-add j n k small in
    record {
      waits = read_marked slots (j * n + k) Waiting ready.waits.1;
      earlier = λ later.
          let some : 0 < k = subst (λ m. 0 < m) phase later in
          let before = ready.clear j (k - 1) (record { member = omega arith; phase = omega arith; other = inr (omega arith) }) in
          let place : j * n + (k - 1) ≡ j * n + k - 1 = omega arith in
          ap (mark_at slots) (sym place) ∙ read_marked slots (j * n + (k - 1)) Filled before.1;
      below = λ row.
          let some : 0 < j = not_first j row in
          let before = ready.clear (j - 1) k (record { member = omega arith; phase = omega arith; other = inl (omega arith) }) in
          let place = place_below n j k (j * n + k) some refl in
          ap (mark_at slots) (sym place.0) ∙ read_marked slots ((j - 1) * n + k) Filled before.1;
    }
  where
    not_first : (m : ℕ) → n ≤ m * n + k → 0 < m
    not_first zero row = let small = ready.waits.0 in absurd (omega arith)
    not_first (suc m) row = omega arith

-- The first slot that looks ready is that of the piece that is due.
pub first_is_due : (n : ℕ) (slots : List Slot) (place : ℕ) → 0 < n → place < length slots → AreInOrder n (map mark_of slots) → LooksReady n slots place →
    ((i : ℕ) → i < place → LooksReady n slots i → ⊥) → IsFirst n (map mark_of slots) (place / n) (place % n)
first_is_due n slots place some less order look first = record {
  ready = ready_from_look n slots place some less order look;
  least = λ i h ready.
      let here = same_place n place in
      let other = look_from_ready n slots i h ready in
      let le : place ≤ i * n + h = not_before (cases_lt (i * n + h) place) other in
      in_order n (place / n) (place % n) i h (mod_below place n some) ready.waits.0 (omega (arith, here, le));
}
  where
    not_before : {m : ℕ} → (m < place) ⊎ (place ≤ m) → LooksReady n slots m → place ≤ m
    not_before {m} (inl lt) other = absurd (first m lt other)
    not_before {m} (inr le) other = le

-- If no slot looks ready, no piece is ready.
pub none_is_ready : (n : ℕ) (slots : List Slot) → ((i : ℕ) → i < length slots → LooksReady n slots i → ⊥) → (j k : ℕ) → IsReady n (map mark_of slots) j k → ⊥
none_is_ready n slots none j k ready =
    none (j * n + k) (read_within slots (j * n + k) Waiting ready.waits.1) (look_from_ready n slots j k ready)

-- ---- the slots that follow

pub it_follows : (n j k i : ℕ) → j ≤ i / n → k ≤ i % n → follows n j k i ≡ true
it_follows n j k i member phase = ap (λ b. b && nat_le k (i % n)) (le-leb j (i / n) member) ∙ le-leb k (i % n) phase

pub not_member : (n j k i : ℕ) → i / n < j → follows n j k i ≡ false
not_member n j k i member = ap (λ b. b && nat_le k (i % n)) (lt-leb j (i / n) member)

pub not_phase : (n j k i : ℕ) → i % n < k → follows n j k i ≡ false
not_phase n j k i phase = either_false (nat_le j (i / n)) (nat_le k (i % n)) (lt-leb k (i % n) phase)
  where
    either_false : (a b : Bool) → b ≡ false → (a && b) ≡ false
    either_false true b e = e
    either_false false b e = refl
