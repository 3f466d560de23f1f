-- The program of a seed and a size: a stencil over a square grid whose edges meet, with pools inside teams inside a pool. In
-- the comments K is the size, H half of it, rounded down, L one less than it, and p, q and r are drawn from the seed; in the
-- tree they are numbers. All lines are 1.
use Rattle.std.specs.Prelude.{ℕ, ◌+◌, ◌-◌, ◌*◌, ◌/◌, ◌%◌, ◌^◌, pos, List, [], ◌∷◌, codes}
use Rattle.array_tree.specs.Trees.{ProgramTree, Declaration, Statement, Expression, Number, Var, Read, Binary, Assign, For, Par, Team, sequence, sequences}
use Rattle.array_tree.specs.declared.tree.Op.TheVariants.{Add, Mul, Rem}

-- The state of the generator after one draw.
abbrev pub state_after : ℕ → ℕ
state_after state = (state * 6364136223846793005 + 1442695040888963407) % 2 ^ 64

-- The number from 0 to 15 that a draw returns in a state.
abbrev pub drawn : ℕ → ℕ
drawn state = state / 2 ^ 60

-- A literal.
abbrev pub number : ℕ → Expression
number n = Number (pos n)

-- A sum.
abbrev pub plus : Expression → Expression → Expression
plus left right = Binary Add left right

-- A product.
abbrev pub times : Expression → Expression → Expression
times left right = Binary Mul left right

-- The row number i.
abbrev pub row_number : Expression
row_number = Var (codes "i")

-- The column number j.
abbrev pub column_number : Expression
column_number = Var (codes "j")

-- A coordinate plus `by`, modulo the grid's size.
abbrev pub moved : ℕ → Expression → ℕ → Expression
moved size coordinate by = Binary Rem (plus coordinate (number by)) (number size)

-- The index of a row and a column: row * K + column.
abbrev pub place_at : ℕ → Expression → Expression → Expression
place_at size row column = plus (times row (number size)) column

-- The cell of an array at a row and a column: x[row * K + column].
abbrev pub cell_at : ℕ → List ℕ → Expression → Expression → Expression
cell_at size array row column = Read array (place_at size row column)

-- A loop over the columns from low to high - 1.
abbrev pub columns : ℕ → ℕ → Statement → Statement
columns low high body = For 1 (codes "j") (pos low) (pos high) (sequence (body ∷ []))

-- A team over the rows from low to high - 1.
abbrev pub rows : ℕ → ℕ → ℕ → Statement → Statement
rows low high members body =
    Team 1 (codes "i") (pos low) (pos high) (pos members) (sequences (sequence (body ∷ []) ∷ []))

-- x[i * K + j] = value
abbrev pub set_cell : ℕ → List ℕ → Expression → Statement
set_cell size array value = Assign 1 array (place_at size row_number column_number) value

-- h[i * K + j] = the sum of the cell of g there, and those right, left, below and above.
abbrev pub gathered : ℕ → Statement
gathered size = set_cell size (codes "h")
    (plus (plus (plus (plus
    (cell_at size (codes "g") row_number column_number)
    (cell_at size (codes "g") row_number (moved size column_number 1)))
    (cell_at size (codes "g") row_number (moved size column_number (size - 1))))
    (cell_at size (codes "g") (moved size row_number 1) column_number))
    (cell_at size (codes "g") (moved size row_number (size - 1)) column_number))

-- A row, as two halves beside one another.
abbrev pub gathered_row : ℕ → Statement
gathered_row size = Par 1 (sequences
    (sequence (columns 0 (size / 2) (gathered size) ∷ [])
    ∷ sequence (columns (size / 2) size (gathered size) ∷ [])
    ∷ []))

-- The grid, as two halves of rows beside one another.
abbrev pub gathered_grid : ℕ → Statement
gathered_grid size = Par 1 (sequences
    (sequence (rows 0 (size / 2) 2 (gathered_row size) ∷ [])
    ∷ sequence (rows (size / 2) size 2 (gathered_row size) ∷ [])
    ∷ []))

-- g[i * K + j] = h[i * K + j], all over the grid.
abbrev pub taken_over : ℕ → Statement
taken_over size = rows 0 size 4
    (columns 0 size (set_cell size (codes "g") (cell_at size (codes "h") row_number column_number)))

-- g[i * K + j] = i * p + j * q + r, all over the grid.
abbrev pub seeded : ℕ → ℕ → ℕ → ℕ → Statement
seeded size p q r = rows 0 size 4 (columns 0 size (set_cell size (codes "g")
    (plus (plus (times row_number (number p)) (times column_number (number q))) (number r))))

-- s[i] = s[i] + g[i * K + j], all over the grid.
abbrev pub summed : ℕ → Statement
summed size = rows 0 size 4 (columns 0 size (Assign 1 (codes "s") row_number
    (plus (Read (codes "s") row_number) (cell_at size (codes "g") row_number column_number))))

-- Four sweeps.
abbrev pub swept : ℕ → Statement
swept size = For 1 (codes "t") (pos 0) (pos 4)
    (sequence (gathered_grid size ∷ taken_over size ∷ []))

-- The declaration of an array of so many cells.
abbrev pub declared : List ℕ → ℕ → Declaration
declared name length = record { line = 1; name = name; length = pos length }

-- The program with the numbers p, q and r.
abbrev pub stencil : ℕ → ℕ → ℕ → ℕ → ProgramTree
stencil size p q r = record {
  arrays = declared (codes "g") (size * size) ∷ declared (codes "h") (size * size)
      ∷ declared (codes "s") size ∷ [];
  body = sequence (seeded size p q r ∷ swept size ∷ summed size ∷ []);
}

-- The program of a seed and a size. p, q and r are the first three draws, in this order.
abbrev pub made_program : ℕ → ℕ → ProgramTree
made_program seed size =
    let first = state_after seed in
    let second = state_after first in
    let third = state_after second in stencil size (drawn first) (drawn second) (drawn third)
