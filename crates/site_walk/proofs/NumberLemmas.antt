-- The array that a cell belongs to.
use Rattle.std.proofs.Common.{◌≡◌, ℕ, ◌+◌, ◌-◌, ◌<◌, ◌≤◌, cond, Bool, true, false, List, [], ◌∷◌, length, Some, None, ℤ, pos, negsuc, refl, ap, ◌∙◌, arith}
use Rattle.std.specs.Prelude.{nat_eq, nat_lt}
use Rattle.std.proofs.lemmas.Bool.{false≢true}
use Rattle.std.proofs.lemmas.Bool.Decides.{nat_tests}
use Rattle.std.proofs.lemmas.Int.{ints}
use Rattle.array_tree.specs.Equal.{name_eq}
use Rattle.array_meaning.specs.Stores.{Arrays, base_of, length_of, cells_of, cell_of}
use Rattle.array_meaning.specs.Overlap.{covers}
use Rattle.array_meaning.specs.Accepted.{is_inside}
use Rattle.array_eval.specs.Layouts.{number_of}
use Rattle.site_walk.specs.Inside.Numbers.{array_at}

-- ---- the first array, or a later one

first_cell : (c l rest : ℕ) → c < l → cond (nat_lt c l) 0 rest ≡ 0
first_cell c l rest h = grind (arith, nat_tests)

later_cell : (c l rest : ℕ) → l ≤ c → cond (nat_lt c l) 0 rest ≡ rest
later_cell c l rest h = grind (arith, nat_tests)

in_first : (c l rest : ℕ) → cond (nat_lt c l) 0 (1 + rest) ≡ 0 → c < l
in_first c l rest h = grind (arith, nat_tests)

in_later : (c l rest n : ℕ) → cond (nat_lt c l) 0 (1 + rest) ≡ 1 + n → (l ≤ c) × (rest ≡ n)
in_later c l rest n h = (grind (arith, nat_tests), grind (arith, nat_tests))

-- A cell within the array of a name belongs to that array.
pub number_within : (arrays : Arrays) (name : List ℕ) (c : ℕ) → c < cells_of arrays →
    base_of arrays name ≤ c → c < base_of arrays name + length_of arrays name → array_at arrays c ≡ number_of arrays name
number_within [] name c small low high = absurd (omega arith)
number_within (a ∷ more) name c small low high =
    cases (name_eq a.0 name) (λ s l h. number_within more name (c - a.1) s l h) low high
  where
    cases : (b : Bool) →
        (c - a.1 < cells_of more → base_of more name ≤ c - a.1 → c - a.1 < base_of more name + length_of more name → array_at more (c - a.1) ≡ number_of more name) →
        cond b 0 (a.1 + base_of more name) ≤ c → c < cond b 0 (a.1 + base_of more name) + cond b a.1 (length_of more name) →
        cond (nat_lt c a.1) 0 (1 + array_at more (c - a.1)) ≡ cond b 0 (1 + number_of more name)
    cases true rest low high = first_cell c a.1 (1 + array_at more (c - a.1)) (omega arith)
    cases false rest low high =
        later_cell c a.1 (1 + array_at more (c - a.1)) (omega arith)
        ∙ ap (λ n. 1 + n) (rest (omega arith) (omega arith) (omega arith))

-- A cell that belongs to an array is within it.
pub within_number : (arrays : Arrays) (name : List ℕ) (c : ℕ) → c < cells_of arrays → array_at arrays c ≡ number_of arrays name →
    (base_of arrays name ≤ c) × (c < base_of arrays name + length_of arrays name)
within_number [] name c small e = absurd (omega arith)
within_number (a ∷ more) name c small e = cases (name_eq a.0 name) (λ s l. within_number more name (c - a.1) s l) e
  where
    cases : (b : Bool) →
        (c - a.1 < cells_of more → array_at more (c - a.1) ≡ number_of more name → (base_of more name ≤ c - a.1) × (c - a.1 < base_of more name + length_of more name)) →
        cond (nat_lt c a.1) 0 (1 + array_at more (c - a.1)) ≡ cond b 0 (1 + number_of more name) →
        (cond b 0 (a.1 + base_of more name) ≤ c) × (c < cond b 0 (a.1 + base_of more name) + cond b a.1 (length_of more name))
    cases true rest e = let low = in_first c a.1 (array_at more (c - a.1)) e in (omega arith, omega arith)
    cases false below e =
        let later = in_later c a.1 (array_at more (c - a.1)) (number_of more name) e in
        let high = later.0 in
        let rest = below (omega arith) later.1 in
        let from = rest.0 in
        let to = rest.1 in
        (omega arith, omega arith)

-- The array of a cell exists.
pub array_there : (arrays : Arrays) (c : ℕ) → c < cells_of arrays → array_at arrays c < length arrays
array_there [] c small = absurd (omega arith)
array_there (a ∷ more) c small = cases (nat_lt c a.1) (λ s. array_there more (c - a.1) s) refl
  where
    cases : (b : Bool) → (c - a.1 < cells_of more → array_at more (c - a.1) < length more) → nat_lt c a.1 ≡ b → cond b 0 (1 + array_at more (c - a.1)) < length (a ∷ more)
    cases true below e = omega arith
    cases false below e = let high : a.1 ≤ c = grind (arith, nat_tests) in let rest = below (omega arith) in omega arith

-- A dynamic index touches the cells of its array.
pub covers_number : (arrays : Arrays) (name : List ℕ) (c : ℕ) → c < cells_of arrays →
    covers arrays name None c ≡ nat_eq (array_at arrays c) (number_of arrays name)
covers_number arrays name c small = cases (nat_eq (array_at arrays c) (number_of arrays name)) (covers arrays name None c) refl refl
  where
    cases : (b d : Bool) → nat_eq (array_at arrays c) (number_of arrays name) ≡ b → covers arrays name None c ≡ d → d ≡ b
    cases true true e f = refl
    cases false false e f = refl
    cases true false e f =
        let same : array_at arrays c ≡ number_of arrays name = grind (arith, nat_tests) in
        let within = within_number arrays name c small same in
        let low = within.0 in let high = within.1 in
        grind (arith, nat_tests)
    cases false true e f =
        let low : base_of arrays name ≤ c = grind (arith, nat_tests) in
        let high : c < base_of arrays name + length_of arrays name = grind (arith, nat_tests) in
        let same = number_within arrays name c small low high in
        grind (arith, nat_tests)

-- The cell of an index inside an array belongs to the array.
pub inside_number : (arrays : Arrays) (name : List ℕ) (i : ℤ) (c : ℕ) → c < cells_of arrays →
    is_inside (length_of arrays name) (Some i) ≡ true → c ≡ cell_of arrays name false i → array_at arrays c ≡ number_of arrays name
inside_number arrays name (pos n) c small inside e =
    let below : n < length_of arrays name = grind (arith, ints) in
    number_within arrays name c small (omega arith) (omega arith)
inside_number arrays name (negsuc n) c small inside e = absurd (false≢true inside)
