-- Made programs are within what texts can spell.
use Rattle.std.proofs.Common.{◌≤◌, ◌<◌, ◌+◌, ◌-◌, ◌*◌, ◌/◌, ◌%◌, ◌^◌, ℕ, codes, refl, arith}
use Rattle.std.proofs.Math.Nat.{div-lt_iff_lt-mul, mod-lt}
use Rattle.std.proofs.lemmas.Nat.{mul-le}
use Rattle.array_tokens.specs.Literals.{greatest_literal}
use Rattle.array_tree.specs.Trees.{Expression, Read, Statement, Assign}
use Rattle.array_print.specs.Spellings.{SpellsButLines}
use Rattle.array_print.specs.Texts.{printed}
use Rattle.array_print.specs.Writable.{IsName, IsPrintable, CanStand, IsWritable}
use Rattle.array_print.proofs.PrintedPrograms.{writable_spells}
use Rattle.program_maker.specs.Made.{state_after, drawn, number, plus, times, row_number, column_number, moved, place_at, cell_at, columns, rows, set_cell, gathered, gathered_row, gathered_grid, taken_over, seeded, summed, swept, stencil, made_program}

i_name : IsName (codes "i")
i_name = (refl, tt, refl)

j_name : IsName (codes "j")
j_name = (refl, tt, refl)

t_name : IsName (codes "t")
t_name = (refl, tt, refl)

g_name : IsName (codes "g")
g_name = (refl, tt, refl)

h_name : IsName (codes "h")
h_name = (refl, tt, refl)

s_name : IsName (codes "s")
s_name = (refl, tt, refl)

-- A number that texts can spell.
abbrev IsShort : ℕ → Type 0
IsShort n = n ≤ greatest_literal

short : (n : ℕ) → n ≤ 1600 → IsShort n
short n h = omega (arith, h)

place_prints : (size : ℕ) (row column : Expression) → IsShort size → IsPrintable row → IsPrintable column → IsPrintable (place_at size row column)
place_prints size row column k r c = ((r, k), c)

moved_prints : (size by : ℕ) (coordinate : Expression) → IsShort size → IsShort by → IsPrintable coordinate → IsPrintable (moved size coordinate by)
moved_prints size by coordinate k b c = ((c, b), k)

-- Statements inside so many braces.
columns_stand : (depth low high : ℕ) (body : Statement) → depth < 32 → IsShort low → IsShort high → CanStand (depth + 1) body → CanStand depth (columns low high body)
columns_stand depth low high body d l h inside = (j_name, l, h, d, (inside, tt))

rows_stand : (depth low high members : ℕ) (body : Statement) → depth < 32 → IsShort low → IsShort high → IsShort members → CanStand (depth + 1) body → CanStand depth (rows low high members body)
rows_stand depth low high members body d l h m inside = (i_name, l, h, m, tt, (d, (inside, tt), tt))

gathered_stands : (depth size : ℕ) → size ≤ 40 → CanStand depth (gathered size)
gathered_stands depth size few =
    let k : IsShort size = short size (omega (arith, few)) in
    let left : IsShort (size - 1) = short (size - 1) (omega (arith, few)) in
    let one : IsShort 1 = omega arith in
    let here = place_prints size row_number column_number k i_name j_name in
    let beside = λ (by : ℕ) (b : IsShort by). place_prints size row_number (moved size column_number by) k i_name (moved_prints size by column_number k b j_name) in
    let below = λ (by : ℕ) (b : IsShort by). place_prints size (moved size row_number by) column_number k (moved_prints size by row_number k b i_name) j_name in (
      h_name,
      (here, omega arith),
      ((((((g_name, here), (g_name, beside 1 one)), (g_name, beside (size - 1) left)), (g_name, below 1 one)), (g_name, below (size - 1) left)), omega arith),
    )

row_stands : (depth size : ℕ) → depth < 29 → size ≤ 40 → CanStand depth (gathered_row size)
row_stands depth size deep few =
    let k : IsShort size = short size (omega (arith, few)) in
    let half : IsShort (size / 2) = short (size / 2) (omega (arith, few)) in
    let none : IsShort 0 = omega arith in
    let inside = gathered_stands (depth + 1 + 1 + 1) size few in
    let d : depth + 1 < 32 = omega (arith, deep) in
    let d' : depth + 1 + 1 < 32 = omega (arith, deep) in (
      omega (arith, deep),
      tt,
      (
        d,
        (columns_stand (depth + 1 + 1) 0 (size / 2) (gathered size) d' none half inside, tt),
        (d, (columns_stand (depth + 1 + 1) (size / 2) size (gathered size) d' half k inside, tt), tt),
      ),
    )

grid_stands : (depth size : ℕ) → depth < 20 → size ≤ 40 → CanStand depth (gathered_grid size)
grid_stands depth size deep few =
    let k : IsShort size = short size (omega (arith, few)) in
    let half : IsShort (size / 2) = short (size / 2) (omega (arith, few)) in
    let none : IsShort 0 = omega arith in
    let two : IsShort 2 = omega arith in
    let inside = row_stands (depth + 1 + 1 + 1) size (omega (arith, deep)) few in
    let d : depth + 1 < 32 = omega (arith, deep) in
    let d' : depth + 1 + 1 < 32 = omega (arith, deep) in (
      omega (arith, deep),
      tt,
      (
        d,
        (rows_stand (depth + 1 + 1) 0 (size / 2) 2 (gathered_row size) d' none half two inside, tt),
        (d, (rows_stand (depth + 1 + 1) (size / 2) size 2 (gathered_row size) d' half k two inside, tt), tt),
      ),
    )

-- A team through all rows, with a loop through all columns.
all_stand : (depth size : ℕ) (body : Statement) → depth < 20 → size ≤ 40 → CanStand (depth + 1 + 1) body → CanStand depth (rows 0 size 4 (columns 0 size body))
all_stand depth size body deep few inside =
    let k : IsShort size = short size (omega (arith, few)) in
    let none : IsShort 0 = omega arith in
    rows_stand depth 0 size 4 (columns 0 size body) (omega (arith, deep)) none k (omega arith)
    (columns_stand (depth + 1) 0 size body (omega (arith, deep)) none k inside)

taken_over_stands : (depth size : ℕ) → depth < 20 → size ≤ 40 → CanStand depth (taken_over size)
taken_over_stands depth size deep few =
    let k : IsShort size = short size (omega (arith, few)) in
    let here = place_prints size row_number column_number k i_name j_name in
    all_stand depth size (set_cell size (codes "g") (cell_at size (codes "h") row_number column_number)) deep few
    (g_name, (here, omega arith), ((h_name, here), omega arith))

seeded_stands : (size p q r : ℕ) → size ≤ 40 → p < 16 → q < 16 → r < 16 → CanStand 0 (seeded size p q r)
seeded_stands size p q r few small_p small_q small_r =
    let k : IsShort size = short size (omega (arith, few)) in
    let here = place_prints size row_number column_number k i_name j_name in
    all_stand 0 size (set_cell size (codes "g") (plus (plus (times row_number (number p)) (times column_number (number q))) (number r))) (omega arith) few
    (g_name, (here, omega arith), ((((i_name, short p (omega (arith, small_p))), (j_name, short q (omega (arith, small_q)))), short r (omega (arith, small_r))), omega arith))

summed_stands : (size : ℕ) → size ≤ 40 → CanStand 0 (summed size)
summed_stands size few =
    let k : IsShort size = short size (omega (arith, few)) in
    let here = place_prints size row_number column_number k i_name j_name in
    all_stand 0 size (Assign 1 (codes "s") row_number (plus (Read (codes "s") row_number) (cell_at size (codes "g") row_number column_number))) (omega arith) few
    (s_name, (i_name, omega arith), (((s_name, i_name), (g_name, here)), omega arith))

swept_stands : (size : ℕ) → size ≤ 40 → CanStand 0 (swept size)
swept_stands size few = (t_name, omega arith, omega arith, omega arith, (grid_stands 1 size (omega arith) few, (taken_over_stands 1 size (omega arith) few, tt)))

stencil_writable : (size p q r : ℕ) → size ≤ 40 → p < 16 → q < 16 → r < 16 → IsWritable (stencil size p q r)
stencil_writable size p q r few small_p small_q small_r =
    let square : size * size ≤ 40 * 40 = mul-le size size 40 40 few few in
    let cells : IsShort (size * size) = short (size * size) square in
    record {
      declares = (g_name, cells, (h_name, cells, (s_name, short size (omega (arith, few)), tt)));
      does = (seeded_stands size p q r few small_p small_q small_r, (swept_stands size few, (summed_stands size few, tt)));
    }

drawn_small : (state : ℕ) → drawn (state_after state) < 16
drawn_small state =
    let next = state * 6364136223846793005 + 1442695040888963407 in
    let below : next % 2 ^ 64 < 16 * 2 ^ 60 = mod-lt next {m = 2 ^ 64} (omega arith) in
    (div-lt_iff_lt-mul {k = 2 ^ 60} {x = next % 2 ^ 64} {y = 16} (omega arith)).1 below

pub made_writable : (seed size : ℕ) → size ≤ 40 → IsWritable (made_program seed size)
made_writable seed size few =
    let first = state_after seed in
    let second = state_after first in
    let third = state_after second in
    stencil_writable size (drawn first) (drawn second) (drawn third) few (drawn_small seed) (drawn_small first) (drawn_small second)

pub made_spelled : (seed size : ℕ) → size ≤ 40 → SpellsButLines (printed (made_program seed size)) (made_program seed size)
made_spelled seed size few = writable_spells (made_program seed size) (made_writable seed size few)
