-- What follows from the invariant.
use Rattle.std.proofs.Common.{◌≡◌, subst, sym, arith}
use Rattle.transfer_table.specs.Table.{TableState, row}
use Rattle.transfer_table.specs.declared.entry.Stage.TheVariants.{Gone}
use Rattle.transfer_table.proofs.Admits.{admitted}
use Rattle.transfer_table.proofs.Positions.{legal_position}
use Rattle.transfer_table.proofs.Stages.{gone_lasts}
use Rattle.transfer_table.proofs.Balance.{legal_balance}
use Rattle.board_rule.specs.declared.layout.Layout.{Layout}
use Rattle.board_rule.specs.StepLaws.{GoneStaysGone, WantsBalance}
use Rattle.board_rule.proofs.Shown.{shown-wishes}

pub gone_stays_gone : (lay : Layout) → GoneStaysGone lay
gone_stays_gone lay p s s' k e step x site gone =
    let fits = legal_position p k.plan k.journal k.table k.legal in
    let d = admitted p k.table e (step.0).table fits step.2 in
    let Q : TableState → Type 0 = λ t. (row t x).stage ≡ Gone in subst Q (sym d.1) (gone_lasts p k.table e fits d.0 x site gone)

pub wants_balance : (lay : Layout) → WantsBalance lay
wants_balance lay p s k x site = let w = (k.sites x site).wishes in let z = shown-wishes p k.plan k.journal k.table k.legal x site in let b = (legal_balance p k.plan k.journal k.table k.legal x site).wished in omega arith
