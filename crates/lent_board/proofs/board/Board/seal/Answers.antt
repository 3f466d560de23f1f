use Rattle.std.proofs.Common.{sym, arith, subst, bit_or}
use Rattle.atomic_table.specs.Table.{Allows}
use Rattle.transfer_table.specs.Plan.{Plan}
use Rattle.board_rule.specs.Views.{done_view}
use Rattle.board_rule.specs.Rule.{Stands}
use Rattle.lent_board.specs.Plays.{Reports, nothing_more}
use Rattle.lent_board.proofs.Allowed.{seals}
use Rattle.lent_board.proofs.board.Board.seal.Goals as goal

pub fetch_or-requires : goal.fetch_or-requires
fetch_or-requires g c = let b = c.args.self.now in let q = c.args.seat.now in
    let P : Plan → Type 0 = λ p. Allows (Stands g.L.Laid.layout p) b.table.shared.table_id.slots q.id q.me c.args.site (λ n. bit_or n 4) (Reports (λ _. done_view) nothing_more q.me) in (
      c.requires.on.board,
      omega (arith, b.wide, c.requires.site.1),
      subst P (sym b.key) (seals g.L.Laid.layout b.plan _ q.id q.me c.requires.on.seat c.args.site c.requires.sealing),
    )
