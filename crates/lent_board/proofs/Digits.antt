-- A layout with room for a plan has a digit for each hart.
use Rattle.std.proofs.Common.{ℕ, ◌<◌, arith}
use Rattle.board_rule.specs.declared.layout.Layout.{Layout}
use Rattle.board_rule.specs.declared.layout.Layout.TheVariants.{Owners, Guests}
use Rattle.board_rule.specs.Layouts.{HasRoom}
use Rattle.lent_board.specs.Amounts.{IsDigit}

pub digit_of : (lay : Layout) (n h : ℕ) → HasRoom lay n → h < n → IsDigit lay h
digit_of Owners n h room lt = omega arith
digit_of Guests n h room lt = tt
