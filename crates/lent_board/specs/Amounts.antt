-- The harts that the first word has room for.
use Rattle.std.specs.Prelude.{ℕ, ◌<◌}
use Rattle.std.specs.Coded.{Unit-prop, le_prop}
use Rattle.board_rule.specs.declared.layout.Layout.{Layout}
use Rattle.board_rule.specs.declared.layout.Layout.TheVariants.{Owners, Guests}
use Rattle.board_rule.specs.Layouts.{HasRoom}

-- A hart for which the first word has a digit.
abbrev pub IsDigit : Layout → ℕ → Type 0
IsDigit Owners hart = hart < 4
IsDigit Guests hart = Unit {0}

-- Whether the layout has room is a proposition: all its proofs are equal.
pub has_room-prop : (lay : Layout) (harts : ℕ) → IsProp (HasRoom lay harts)
has_room-prop Owners harts = le_prop
has_room-prop Guests harts = Unit-prop
