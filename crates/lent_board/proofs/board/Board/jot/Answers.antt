use Rattle.std.proofs.Common.{ℕ, ◌+◌, sym, arith, subst}
use Rattle.atomic_table.specs.Table.{Allows}
use Rattle.transfer_table.specs.Plan.{Plan}
use Rattle.board_rule.specs.Views.{jot_view}
use Rattle.board_rule.specs.Rule.{Stands}
use Rattle.lent_board.specs.Plays.{Reports, nothing_more}
use Rattle.lent_board.proofs.Allowed.{jots}
use Rattle.lent_board.proofs.board.Board.jot.Goals as goal

pub store-requires : goal.store-requires
store-requires g c = let b = c.args.self.now in let q = c.args.seat.now in
    let P : Plan × ℕ × ℕ → Type 0 = λ z. Allows (Stands g.L.Laid.layout z.0) b.table.shared.table_id.slots q.id q.me (1 + z.1 + c.args.place) (λ _. z.2) (λ _. Reports (λ _. jot_view) nothing_more q.me z.2) in (
      c.requires.on.board,
      omega (arith, b.wide, b.counts, c.requires.place),
      subst P (λ i. (sym b.key i, sym b.counts i, sym c.word_of-word.ensures i)) (jots g.L.Laid.layout b.plan _ q.id q.me c.requires.on.seat c.args.place c.args.entry c.requires.drawn),
    )
