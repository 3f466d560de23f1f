-- The fields of the board word.
use Rattle.std.proofs.Common.{◌≡◌, ℕ, ◌+◌, ◌-◌, ◌*◌, ◌/◌, ◌%◌, ◌^◌, ◌<◌, ◌≤◌, List, [], ◌∷◌, length, slice_index, arith, ⊎_elim, zero, suc}
use Rattle.std.proofs.Math.Nat.{pow-succ', mul_left_comm, div-div-eq-div-mul}
use Rattle.transfer_table.specs.Plan.{Plan, IsPlan}
use Rattle.transfer_table.specs.Table.{TableState}
use Rattle.transfer_table.specs.Journal.{Reaches}
use Rattle.transfer_table.specs.declared.entry.Entry.{Entry}
use Rattle.transfer_table.proofs.Positions.{legal_position}
use Rattle.transfer_table.proofs.Bounds.{legal_owner}
use Rattle.hart_port.specs.Words.{owner_digits}
use Rattle.board_rule.specs.Words.{length_unit, entries_in}
use Rattle.board_rule.proofs.Lists.{digits-small}

abbrev pub over : List ℕ → ℕ → ℕ
over [] r = r
over (o ∷ os) r = o + 4096 * over os r

over-is : (os : List ℕ) (r : ℕ) → owner_digits os + r * 4096 ^ length os ≡ over os r
over-is [] r = omega arith
over-is (o ∷ os) r = let i = over-is os r in let q : r * (4096 * 4096 ^ length os) ≡ 4096 * (r * 4096 ^ length os) = mul_left_comm r 4096 (4096 ^ length os) in rw (pow-succ' 4096 (length os)) (omega arith)

first_field : (o x : ℕ) → o ≤ 4095 → (o + 4096 * x) / 4096 ≡ x
first_field o x le = omega arith

pub field_over : (os : List ℕ) (r g : ℕ) → g < length os → ((h : ℕ) → h < length os → slice_index os h ≤ 4095) → over os r / 4096 ^ g % 4096 ≡ slice_index os g
field_over [] r g lt f = absurd (omega arith)
field_over (o ∷ os) r zero lt f = let a : o ≤ 4095 = f 0 (omega arith) in omega arith
field_over (o ∷ os) r (suc g) lt f = let a : o ≤ 4095 = f 0 (omega arith) in
    rw (pow-succ' 4096 g, ← div-div-eq-div-mul (o + 4096 * over os r) 4096 (4096 ^ g), first_field o (over os r) a) (field_over os r g (omega arith) (λ h l. f (suc h) (omega arith)))

-- The unit of the length is the unit of a digit, for any number of harts.
unit_is : (n l : ℕ) → n ≤ 4 → l * length_unit ≡ l * 4096 ^ (4 - n) * 4096 ^ n
unit_is zero l le = omega arith
unit_is (suc zero) l le = omega arith
unit_is (suc (suc zero)) l le = omega arith
unit_is (suc (suc (suc zero))) l le = omega arith
unit_is (suc (suc (suc (suc zero)))) l le = omega arith
unit_is (suc (suc (suc (suc (suc n))))) l le = absurd (omega arith)

pub field_is : (os : List ℕ) (l g w : ℕ) → length os ≤ 4 → g < length os → ((h : ℕ) → h < length os → slice_index os h ≤ 4095) → w ≡ l * length_unit + owner_digits os → w / 4096 ^ g % 4096 ≡ slice_index os g
field_is os l g w few lt f is = let a = unit_is (length os) l few in let b = over-is os (l * 4096 ^ (4 - length os)) in
    let c : w ≡ over os (l * 4096 ^ (4 - length os)) = omega arith in rw c (field_over os (l * 4096 ^ (4 - length os)) g lt f)

-- ---- the numbers in it are small

pub owners_small : (p : Plan) → IsPlan p → (es : List Entry) (t : TableState) → Reaches p es t → (g : ℕ) → g < length t.owners → slice_index t.owners g ≤ 4095
owners_small p plan es t leads g lt = let few = plan.few_sites in let size = (legal_position p plan es t leads).owners in
    ⊎_elim (λ z. omega arith) (λ r. let high = r.0.1 in omega arith) (legal_owner p plan es t leads g (omega arith))

small : (n : ℕ) (os : List ℕ) → length os ≡ n → n ≤ 4 → ((h : ℕ) → h < length os → slice_index os h ≤ 4095) → owner_digits os < length_unit
small n [] len le f = omega arith
small n (a ∷ []) len le f = let r = digits-small (a ∷ []) f in omega arith
small n (a ∷ b ∷ []) len le f = let r = digits-small (a ∷ b ∷ []) f in omega arith
small n (a ∷ b ∷ c ∷ []) len le f = let r = digits-small (a ∷ b ∷ c ∷ []) f in omega arith
small n (a ∷ b ∷ c ∷ d ∷ []) len le f = let r = digits-small (a ∷ b ∷ c ∷ d ∷ []) f in omega arith
small n (a ∷ b ∷ c ∷ d ∷ e ∷ os) len le f = absurd (omega arith)

-- The owners are less than one unit of the length.
pub digits_small : (p : Plan) → IsPlan p → p.harts ≤ 4 → (es : List Entry) (t : TableState) → Reaches p es t → owner_digits t.owners < length_unit
digits_small p plan four es t leads = small p.harts t.owners (legal_position p plan es t leads).owners four (owners_small p plan es t leads)

-- The board word determines the length.
pub entries_is : (n l : ℕ) (os : List ℕ) → n ≡ l * length_unit + owner_digits os → owner_digits os < length_unit → entries_in n ≡ l
entries_is n l os is less = omega arith
