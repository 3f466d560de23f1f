use Rattle.std.proofs.Common.{sym, arith, subst}
use Rattle.atomic_table.specs.Table.{Allows}
use Rattle.transfer_table.specs.Plan.{Plan}
use Rattle.board_rule.specs.Views.{glance_view}
use Rattle.board_rule.specs.Rule.{Stands}
use Rattle.lent_board.specs.Plays.{Reports, IsSmall}
use Rattle.lent_board.proofs.Allowed.{glances}
use Rattle.lent_board.proofs.board.Board.glance.Goals as goal

pub load-requires : goal.load-requires
load-requires g c = let b = c.args.self.now in let q = c.args.seat.now in
    let P : Plan → Type 0 = λ p. Allows (Stands g.L.Laid.layout p) b.table.shared.table_id.slots q.id q.me c.args.site (λ n. n) (Reports (glance_view c.args.site) IsSmall q.me) in (
      c.requires.on.board,
      omega (arith, b.wide, c.requires.site.1),
      subst P (sym b.key) (glances g.L.Laid.layout b.plan _ q.id q.me c.requires.on.seat c.args.site c.requires.ready c.requires.site),
    )
