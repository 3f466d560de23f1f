use Rattle.std.proofs.Common.{◌+◌, ◌-◌, ◌%◌, ◌^◌, sym, arith, subst}
use Rattle.atomic_table.specs.Table.{Allows}
use Rattle.transfer_table.specs.Plan.{Plan}
use Rattle.board_rule.specs.Views.{done_view}
use Rattle.board_rule.specs.Rule.{Stands}
use Rattle.lent_board.specs.Plays.{Reports, nothing_more}
use Rattle.lent_board.proofs.Allowed.{leaves}
use Rattle.lent_board.proofs.board.Board.leave.Goals as goal

pub fetch_sub-requires : goal.fetch_sub-requires
fetch_sub-requires g c = let b = c.args.self.now in let q = c.args.seat.now in
    let P : Plan → Type 0 = λ p. Allows (Stands g.L.Laid.layout p) b.table.shared.table_id.slots q.id q.me c.args.site (λ n. (n + (2 ^ 64 - 65536)) % 2 ^ 64) (Reports (λ _. done_view) nothing_more q.me) in (
      c.requires.on.board,
      omega (arith, b.wide, c.requires.site.1),
      subst P (sym b.key) (leaves g.L.Laid.layout b.plan _ q.id q.me c.requires.on.seat c.args.site c.requires.leaving),
    )
