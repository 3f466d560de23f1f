-- The board word.
use Rattle.std.specs.Prelude.{ℕ, ◌^◌, ◌/◌, ◌==◌, not, ◌&&◌, ◌||◌, Bool, false, zero, suc}
use Rattle.hart_port.specs.Words.{owner_field}

-- The unit of the journal's length in the board word: 2^48.
abbrev pub length_unit : ℕ
length_unit = 281474976710656

-- The unit of the number of a hart's owner in the board word.
abbrev pub owner_unit : ℕ → ℕ
owner_unit hart = 4096 ^ hart

-- The number of entries that the board word counts.
abbrev pub entries_in : ℕ → ℕ
entries_in word = word / length_unit

-- The field of some hart below the first argument, other than h, has the site in the board word.
abbrev pub others_at : ℕ → ℕ → ℕ → ℕ → Bool
others_at zero word h site = false
others_at (suc g) word h site =
    (not (g == h) && (owner_field word g == site)) || others_at g word h site
