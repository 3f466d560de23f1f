-- The array lines of a store.
use Rattle.std.specs.Prelude.{ℕ, List, [], ◌∷◌, ◌++◌, ℤ, flat_map, take, drop}
use Rattle.std.specs.Fmt.{signed_decimal}
use Rattle.array_tree.specs.Trees.{ProgramTree}
use Rattle.array_meaning.specs.Stores.{Arrays, Store, arrays_of}

-- The line of an array: its name, ` =`, for each cell a space and its value in decimal, and a newline.
abbrev pub array_line : List ℕ → List ℤ → List ℕ
array_line name cells = name ++ (32 ∷ 61 ∷ [])
    ++ flat_map (λ value. 32 ∷ signed_decimal value) cells ++ 10 ∷ []

-- The lines of arrays whose cells follow one another.
abbrev pub array_lines : Arrays → List ℤ → List ℕ
array_lines [] cells = []
array_lines (a ∷ more) cells = array_line a.0 (take a.1 cells) ++ array_lines more (drop a.1 cells)

-- The array lines of a program's store.
abbrev pub array_text : ProgramTree → Store → List ℕ
array_text program store = array_lines (arrays_of program.arrays) store
