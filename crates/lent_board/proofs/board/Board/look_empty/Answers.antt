use Rattle.std.proofs.Common.{sym, arith, subst}
use Rattle.atomic_table.specs.Table.{Allows}
use Rattle.transfer_table.specs.Plan.{Plan}
use Rattle.board_rule.specs.Views.{see_empty_view}
use Rattle.board_rule.specs.Rule.{Stands}
use Rattle.lent_board.specs.Plays.{Reports, nothing_more}
use Rattle.lent_board.proofs.Allowed.{sees_empty}
use Rattle.lent_board.proofs.board.Board.look_empty.Goals as goal

pub load-requires : goal.load-requires
load-requires g c = let b = c.args.self.now in let q = c.args.seat.now in
    let P : Plan → Type 0 = λ p. Allows (Stands g.L.Laid.layout p) b.table.shared.table_id.slots q.id q.me 0 (λ n. n) (Reports see_empty_view nothing_more q.me) in (
      c.requires.on.board,
      omega (arith, b.wide),
      subst P (sym b.key) (sees_empty g.L.Laid.layout b.plan _ q.id q.me c.requires.on.seat c.requires.layout c.requires.may),
    )
