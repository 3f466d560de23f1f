-- The words of a board: the board word, the site words, and the journal words.
use Rattle.std.specs.Prelude.{ℕ, ◌+◌, ◌*◌, List, slice_index}
use Rattle.transfer_table.specs.Plan.{Plan, room, site_count}
use Rattle.transfer_table.specs.declared.entry.Entry.{Entry}
use Rattle.transfer_table.specs.declared.entry.Entry.TheVariants.{Register, Request, Enter, Yield, Unregister, Skip}

-- ---- a site's word

-- The unit of the want in a site's word.
abbrev pub wish_unit : ℕ
wish_unit = 256

-- The unit of the guests in a site's word.
abbrev pub guest_unit : ℕ
guest_unit = 65536

-- ---- the journal's words

-- The unit of the hart in the word of an entry.
abbrev pub hart_unit : ℕ
hart_unit = 8

-- The unit of the count in the word of an entry.
abbrev pub count_unit : ℕ
count_unit = 256

-- The unit of the site in the word of an entry.
abbrev pub site_unit : ℕ
site_unit = 65536

-- The number of words of a board: one for the board, one for each site, and one for each entry.
abbrev pub width : Plan → ℕ
width p = 1 + site_count p + room p

-- The position of the word of journal index i.
abbrev pub journal_index : Plan → ℕ → ℕ
journal_index p i = 1 + site_count p + i

-- The word of journal index i.
abbrev pub journal_word : Plan → List ℕ → ℕ → ℕ
journal_word p ws i = slice_index ws (journal_index p i)

-- The word of an entry: its kind, its hart, its count and its site.
abbrev pub spelled : Entry → ℕ
spelled (Register h s) = 1 + hart_unit * h + site_unit * s
spelled (Request h s k) = 2 + hart_unit * h + count_unit * k + site_unit * s
spelled (Enter h s) = 3 + hart_unit * h + site_unit * s
spelled (Yield h s) = 4 + hart_unit * h + site_unit * s
spelled (Unregister h s) = 5 + hart_unit * h + site_unit * s
spelled (Skip h s) = 6 + hart_unit * h + site_unit * s
