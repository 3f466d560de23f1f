-- The four lines of a run's summary.
use Rattle.std.specs.Prelude.{ℕ, ℤ, pos, ◌+ℤ◌, List, [], ◌∷◌, ◌++◌, codes, length, count_by}
use Rattle.std.specs.Fmt.{decimal, signed_decimal}
use Rattle.std.specs.Int.{int_wrap, w64}
use Rattle.transfer_table.specs.Plan.{Plan, site_count}
use Rattle.transfer_table.specs.Entry.{is_register}
use Rattle.transfer_table.specs.declared.entry.Entry.{Entry}
use Rattle.array_meaning.specs.Stores.{Store}

-- The sum of the cells, as a whole number.
abbrev pub whole_sum : Store → ℤ
whole_sum [] = pos 0
whole_sum (value ∷ more) = value +ℤ whole_sum more

-- The sum of the cells, wrapped to 64 bits.
abbrev pub sum_of : Store → ℤ
sum_of store = int_wrap w64 (whole_sum store)

-- A line of a word and a number's text.
abbrev pub line_of : List ℕ → List ℕ → List ℕ
line_of word number = word ++ number ++ 10 ∷ []

-- The lines of the number of cells, their sum, the number of sites, and how many of the entries register one.
abbrev pub summary_text : Plan → Store → List Entry → List ℕ
summary_text plan store list =
    line_of (codes "cells ") (decimal (length store))
    ++ line_of (codes "sum ") (signed_decimal (sum_of store))
    ++ line_of (codes "sites ") (decimal (site_count plan))
    ++ line_of (codes "registers ") (decimal (count_by is_register list))
