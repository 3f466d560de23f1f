use Rattle.std.proofs.Common.{sym, arith, subst}
use Rattle.atomic_table.specs.Table.{Allows}
use Rattle.transfer_table.specs.Plan.{Plan}
use Rattle.board_rule.specs.declared.view.LookKind.TheVariants as look
use Rattle.board_rule.specs.Views.{see_drained_next}
use Rattle.board_rule.specs.Rule.{Stands}
use Rattle.lent_board.specs.Plays.{Reports, noting, nothing_more}
use Rattle.lent_board.proofs.Allowed.{sees_drained}
use Rattle.lent_board.proofs.board.Board.look_drained.Goals as goal

pub load-requires : goal.load-requires
load-requires g c = let b = c.args.self.now in let q = c.args.seat.now in
    let P : Plan → Type 0 = λ p. Allows (Stands g.L.Laid.layout p) b.table.shared.table_id.slots q.id q.me c.args.owner (λ n. n) (Reports (noting c.args.owner look.Look (see_drained_next g.L.Laid.layout)) nothing_more q.me) in (
      c.requires.on.board,
      omega (arith, b.wide, c.requires.site.1),
      subst P (sym b.key) (sees_drained g.L.Laid.layout b.plan _ q.id q.me c.requires.on.seat c.args.owner c.requires.owner c.requires.may),
    )
