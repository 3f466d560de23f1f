use Rattle.std.proofs.Common.{◌+◌, ◌%◌, ◌^◌, sym, arith, subst}
use Rattle.atomic_table.specs.Table.{Allows}
use Rattle.transfer_table.specs.Plan.{Plan}
use Rattle.board_rule.specs.Layouts.{entries_of}
use Rattle.board_rule.specs.Views.{skip_view}
use Rattle.board_rule.specs.Rule.{Stands}
use Rattle.lent_board.specs.Plays.{Reports, IsPlaceOf}
use Rattle.lent_board.proofs.Allowed.{skips_at}
use Rattle.lent_board.proofs.board.Board.make_skip.Goals as goal

pub fetch_add-requires : goal.fetch_add-requires
fetch_add-requires g c = let b = c.args.self.now in let q = c.args.seat.now in
    let P : Plan → Type 0 = λ p. Allows (Stands g.L.Laid.layout p) b.table.shared.table_id.slots q.id q.me 0 (λ n. (n + c.stay-amount.result) % 2 ^ 64) (Reports (λ n. skip_view (entries_of g.L.Laid.layout n)) (IsPlaceOf g.L.Laid.layout q.me.0) q.me) in (
      c.requires.on.board,
      omega (arith, b.wide),
      subst P (sym b.key) (skips_at g.L.Laid.layout b.plan _ q.id q.me c.requires.on.seat c.args.site c.stay-amount.result c.requires.claiming (c.stay-amount.ensures q.me.0.owner q.me.0.hart)),
    )
