-- What differs between the layouts of a board: the first word, the harts that a site's word counts, and the step that remains
-- after an Enter and a Yield.
use Rattle.std.specs.Prelude.{◌≡◌, ℕ, ◌+◌, ◌*◌, ◌≤◌}
use Rattle.transfer_table.specs.Plan.{Plan}
use Rattle.transfer_table.specs.Table.{TableState}
use Rattle.hart_port.specs.Words.{board_word}
use Rattle.transfer_table.specs.Guests.{guests_in}
use Rattle.board_rule.specs.Words.{length_unit, owner_unit, entries_in}
use Rattle.board_rule.specs.declared.layout.Layout.{Layout}
use Rattle.board_rule.specs.declared.layout.Layout.TheVariants.{Owners, Guests}
use Rattle.board_rule.specs.declared.view.Doing.{Doing}
use Rattle.board_rule.specs.declared.view.Doing.TheVariants.{Idle, Landing, Leaving}

-- The first word has room for so many harts.
abbrev pub HasRoom : Layout → ℕ → Type 0
HasRoom Owners harts = harts ≤ 4
HasRoom Guests harts = Unit {0}

-- The first word of a board whose table has this state after so many entries.
abbrev pub first_word : Layout → TableState → ℕ → ℕ
first_word Owners t n = board_word t n
first_word Guests t n = n

-- The number of entries that the first word counts.
abbrev pub entries_of : Layout → ℕ → ℕ
entries_of Owners word = entries_in word
entries_of Guests word = word

-- The first word grows by this amount with an entry by which a hart goes from its owner to a site or the base, or stays.
abbrev pub Adds : Layout → (owner hart to amount : ℕ) → Type 0
Adds Owners owner hart to amount =
    amount + owner * owner_unit hart ≡ length_unit + to * owner_unit hart
Adds Guests owner hart to amount = amount ≡ 1

-- The number of guests inside a site that the site's word counts.
abbrev pub insiders : Layout → Plan → TableState → ℕ → ℕ
insiders Owners p t x = 0
insiders Guests p t x = guests_in p t x

-- The pending step of a hart after its Enter of a site.
abbrev pub after_enter : Layout → ℕ → Doing
after_enter Owners x = Landing x
after_enter Guests x = Idle

-- The pending step of a hart after its Yield of a site.
abbrev pub after_yield : Layout → ℕ → Doing
after_yield Owners x = Idle
after_yield Guests x = Leaving x
