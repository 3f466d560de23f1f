use Rattle.std.proofs.Common.{◌+◌, ◌-◌, ◌==◌, sym, arith, subst}
use prog.Atomic.{either}
use Rattle.atomic_table.specs.Table.{Allows}
use Rattle.transfer_table.specs.Plan.{Plan}
use Rattle.board_rule.specs.Views.{reserve_view}
use Rattle.board_rule.specs.Rule.{Stands}
use Rattle.lent_board.specs.Plays.{Reports, nothing_more}
use Rattle.lent_board.proofs.Allowed.{reserves}
use Rattle.lent_board.proofs.board.Board.reserve.Goals as goal

pub compare_exchange-requires : goal.compare_exchange-requires
compare_exchange-requires g c = let b = c.args.self.now in let q = c.args.seat.now in
    let P : Plan → Type 0 = λ p. Allows (Stands g.L.Laid.layout p) b.table.shared.table_id.slots q.id q.me c.args.site (λ n. either (n == c.args.read) (c.args.read - 256 + 65536) n) (Reports (reserve_view c.args.site c.args.read) nothing_more q.me) in (
      c.requires.on.board,
      (let high = c.requires.may.1.1 in omega (arith, b.wide)),
      subst P (sym b.key) (reserves g.L.Laid.layout b.plan _ q.id q.me c.requires.on.seat c.args.site c.args.read c.requires.may),
    )
