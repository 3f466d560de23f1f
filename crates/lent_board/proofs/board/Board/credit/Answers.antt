use Rattle.std.proofs.Common.{◌+◌, ◌*◌, ◌%◌, ◌^◌, sym, arith, subst}
use Rattle.atomic_table.specs.Table.{Allows}
use Rattle.transfer_table.specs.Plan.{Plan}
use Rattle.board_rule.specs.Views.{done_view}
use Rattle.board_rule.specs.Rule.{Stands}
use Rattle.lent_board.specs.Plays.{Reports, nothing_more}
use Rattle.lent_board.proofs.Allowed.{credits}
use Rattle.lent_board.proofs.board.Board.credit.Goals as goal

pub fetch_add-requires : goal.fetch_add-requires
fetch_add-requires g c = let b = c.args.self.now in let q = c.args.seat.now in
    let P : Plan → Type 0 = λ p. Allows (Stands g.L.Laid.layout p) b.table.shared.table_id.slots q.id q.me c.args.site (λ n. (n + 256 * c.args.count) % 2 ^ 64) (Reports (λ _. done_view) nothing_more q.me) in (
      c.requires.on.board,
      omega (arith, b.wide, c.requires.site.1),
      subst P (sym b.key) (credits g.L.Laid.layout b.plan _ q.id q.me c.requires.on.seat c.args.site c.args.count c.requires.crediting),
    )
