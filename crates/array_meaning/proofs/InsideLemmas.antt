-- A program in range, with known names and indices inside, touches only cells of its arrays.
use Rattle.std.proofs.Common.{◌≡◌, ℕ, zero, suc, ◌+◌, ◌<◌, ◌≤◌, Bool, true, false, cond, List, [], ◌∷◌, map, Option, Some, None, ℤ, pos, negsuc, refl, ap, arith}
use Rattle.std.specs.Prelude.{◌&&◌, ◌||◌, int_le, int_lt, nat_le, unsigned_abs, IsTrue, length}
use Rattle.std.proofs.lemmas.Bool.{false≢true, and_parts}
use Rattle.std.proofs.lemmas.Bool.Decides.{nat_tests}
use Rattle.array_tree.specs.Trees.{Declaration, ProgramTree}
use Rattle.array_tree.specs.Equal.{name_eq}
use Rattle.array_meaning.specs.Stores.{Arrays, arrays_of, cells_of, HaveCells, AreSized, base_of, length_of}
use Rattle.array_meaning.specs.Touch.{Covers}
use Rattle.array_meaning.specs.Names.{is_among, names_of}
use Rattle.array_meaning.specs.Limits.{is_up_to, have_right_lengths, has_right_ranges, is_in_range}
use Rattle.array_meaning.specs.Accepted.{is_inside}

-- ---- arrays in range have cells, at most 4,096

one_or_more : (n : ℤ) → is_up_to (pos 4096) n ≡ true → 0 < unsigned_abs n
one_or_more (pos zero) e = absurd (false≢true e)
one_or_more (pos (suc n)) e = omega arith
one_or_more (negsuc n) e = absurd (false≢true e)

cells_of_right : (ds : List Declaration) → have_right_lengths ds ≡ true → HaveCells (arrays_of ds)
cells_of_right [] e = tt
cells_of_right (d ∷ ds) e =
    let parts = and_parts (is_up_to (pos 4096) d.length) (have_right_lengths ds) e in
    (one_or_more d.length parts.0, cells_of_right ds parts.1)

-- A program in range can be run.
pub sized_in_range : (program : ProgramTree) → IsTrue (is_in_range program) → AreSized (arrays_of program.arrays)
sized_in_range program e =
    let cells = cells_of (arrays_of program.arrays) in
    let all = and_parts (have_right_lengths program.arrays && (nat_le (length program.arrays) 64 && nat_le cells 4096)) (has_right_ranges program.body) e in
    let arrays = and_parts (have_right_lengths program.arrays) (nat_le (length program.arrays) 64 && nat_le cells 4096) all.0 in
    let counts = and_parts (nat_le (length program.arrays) 64) (nat_le cells 4096) arrays.1 in
    let few = counts.1 in
    record { each = cells_of_right program.arrays arrays.0; whole = grind (arith, nat_tests) }

-- ---- a known array lies inside

abbrev pub names_in : Arrays → List (List ℕ)
names_in arrays = map (λ a. a.0) arrays

pub names_in_of : (ds : List Declaration) → names_in (arrays_of ds) ≡ names_of ds
names_in_of [] = refl
names_in_of (d ∷ ds) = ap (λ names. d.name ∷ names) (names_in_of ds)

pub array_inside : (arrays : Arrays) (name : List ℕ) → is_among name (names_in arrays) ≡ true →
    base_of arrays name + length_of arrays name ≤ cells_of arrays
array_inside [] name e = absurd (false≢true e)
array_inside (a ∷ more) name e = cases (name_eq a.0 name) (array_inside more name) e
  where
    cases : (b : Bool) → (is_among name (names_in more) ≡ true → base_of more name + length_of more name ≤ cells_of more) →
        (b || is_among name (names_in more)) ≡ true →
        cond b 0 (a.1 + base_of more name) + cond b a.1 (length_of more name) ≤ a.1 + cells_of more
    cases true ih f = omega arith
    cases false ih f = let le = ih f in omega (arith, le)

index_inside : (length : ℕ) (index : ℤ) → is_inside length (Some index) ≡ true → unsigned_abs index < length
index_inside length (pos n) e = let lt = (and_parts (int_le (pos 0) (pos n)) (int_lt (pos n) (pos length)) e).1 in grind (arith, nat_tests)
index_inside length (negsuc n) e = absurd (false≢true e)

pub covers_inside : (arrays : Arrays) (name : List ℕ) (index : Option ℤ) (cell : ℕ) → is_among name (names_in arrays) ≡ true →
    is_inside (length_of arrays name) index ≡ true → Covers arrays name index cell → cell < cells_of arrays
covers_inside arrays name (Some index) cell known inside covered =
    let within = array_inside arrays name known in
    let small = index_inside (length_of arrays name) index inside in
    omega (arith, within, small, covered)
covers_inside arrays name None cell known inside covered =
    let within = array_inside arrays name known in omega (arith, within, covered.1)
