-- The words that a port shows: one for each site, and one for the board.
use Rattle.std.specs.Prelude.{◌≢◌, ◌<◌, ℕ, ◌+◌, ◌*◌, ◌/◌, ◌%◌, ◌^◌, ◌==◌, Bool, true, false, not, ◌&&◌, List, [], ◌∷◌, take}
use Rattle.transfer_table.specs.Table.{TableState}
use Rattle.transfer_table.specs.declared.entry.Row.{Row}
use Rattle.transfer_table.specs.declared.entry.Stage.{Stage}
use Rattle.transfer_table.specs.declared.entry.Stage.TheVariants.{New, Live, Gone}

-- Bit 0 of a site word: the site is claimed.
abbrev pub is_claimed : ℕ → Bool
is_claimed word = word % 2 == 1

-- Bit 1 of a site word: the site is closing, so no hart may enter.
abbrev pub is_closing : ℕ → Bool
is_closing word = word / 2 % 2 == 1

-- Bit 2 of a site word: the site is gone.
abbrev pub is_closed : ℕ → Bool
is_closed word = word / 4 % 2 == 1

-- Bits 8 to 15 of a site word: the number of wishes for which no hart is reserved.
abbrev pub want_of : ℕ → ℕ
want_of word = word / 256 % 256

-- From bit 16 of a site word on: the number of harts on their way in.
abbrev pub flight_of : ℕ → ℕ
flight_of word = word / 65536

-- The site word wants a hart: the site is claimed, neither closing nor gone, and has a wish.
abbrev pub is_wanted : ℕ → Bool
is_wanted word = is_claimed word && not (is_closing word) && not (is_closed word)
    && not (want_of word == 0)

-- The owner of the hart in a board word, which has twelve bits for each hart.
abbrev pub owner_field : ℕ → ℕ → ℕ
owner_field word hart = word / 4096 ^ hart % 4096

-- The claimed bit and the closed bit of a site at this stage.
abbrev pub stage_bits : Stage → ℕ
stage_bits New = 0
stage_bits Live = 1
stage_bits Gone = 1 + 4

-- The closing bit of a word.
abbrev pub closing_bit : Bool → ℕ
closing_bit true = 2
closing_bit false = 0

-- The word of a site into which no hart is on its way, from the site's row and whether the site is closing.
abbrev pub site_word : Row → Bool → ℕ
site_word row closing = stage_bits row.stage + closing_bit closing + 256 * row.wishes

-- The owners as digits to the base 4096; the owner of hart 0 is the lowest digit.
abbrev pub owner_digits : List ℕ → ℕ
owner_digits [] = 0
owner_digits (o ∷ os) = o + 4096 * owner_digits os

-- The board word: the length of the journal from bit 48 on, and below it the owner of each hart.
abbrev pub board_word : TableState → ℕ → ℕ
board_word t size = size * 2 ^ 48 + owner_digits t.owners

-- The table with the owners of the first four harts alone. Why: a board word has room for no more owners.
abbrev pub first_four : TableState → TableState
first_four t = record t { owners = take 4 t.owners }

-- The hart g is one of so many harts, and not h.
abbrev pub IsOther : ℕ → ℕ → ℕ → Type 0
IsOther harts h g = (g < harts) × (g ≢ h)
