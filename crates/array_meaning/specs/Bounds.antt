-- The limits of a program, each with its one name.
use Rattle.std.specs.Prelude.{ℕ}

-- The text of a program has at most so many bytes.
abbrev pub most_bytes : ℕ
most_bytes = 65536

-- A program has at most so many arrays.
abbrev pub most_arrays : ℕ
most_arrays = 64

-- An array, and all arrays together, have at most so many cells.
abbrev pub most_cells : ℕ
most_cells = 4096

-- A `par` has at most so many branches, and a `team` so many members: the pieces of one phase.
abbrev pub most_members : ℕ
most_members = 64

-- A `team` has at most so many phases.
abbrev pub most_phases : ℕ
most_phases = 8

-- At most so many constructs are one inside the other.
abbrev pub most_depth : ℕ
most_depth = 3

-- A program has at most so many units of work.
abbrev pub most_units : ℕ
most_units = 1048576

-- A program has at most so many sites, on both sides of each `if`. They are numbered from 1, and 0 stands for the base.
abbrev pub most_sites : ℕ
most_sites = 4095

-- All sites of a program have at most so many pieces.
abbrev pub most_pieces : ℕ
most_pieces = 16384
