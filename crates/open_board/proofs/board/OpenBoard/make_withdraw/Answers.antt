use Rattle.std.proofs.Common.{ℕ, ◌-◌, ◌*◌, ◌==◌, sym, ◌∙◌, arith, subst}
use prog.Atomic.{either}
use Rattle.atomic_table.specs.Table.{Allows}
use Rattle.open_table.specs.declared.table.Size.{Size}
use Rattle.open_rule.specs.Rule.{Stands}
use Rattle.open_board.specs.Plays.{Shows, nothing_more, withdraw_next}
use Rattle.open_board.proofs.Taken as taken
use Rattle.open_board.proofs.Taken.{eighth, takes_back, M}
use Rattle.open_board.proofs.board.OpenBoard.make_withdraw.Goals as goal

pub compare_exchange-requires : goal.compare_exchange-requires
compare_exchange-requires c = let b = c.args.self.now in let q = c.args.seat.now in let x : ℕ = c.args.site in
    let n : ℕ = c.args.read in let count : ℕ = c.args.count in
    let P : Size × ℕ × ℕ → Type 0 = λ w. Allows (Stands w.0) b.table.shared.table_id.slots q.id q.me (8 * x) (λ m. either (m == n) (n - count * 256) m) (Shows (withdraw_next w.1 n w.2) nothing_more q.me) in (
      c.requires.on.board,
      omega (arith, b.wide, c.requires.high),
      subst P (λ i. (sym b.key i, sym (eighth x) i, sym (takes_back n count c.requires.enough) i)) (taken.withdraws b.size _ q.id q.me c.requires.on.seat x n count c.requires.high c.requires.site c.requires.may c.requires.enough),
    )

pub returns-clause-view : goal.returns-clause-view
returns-clause-view c = let q = c.args.seat.now in
    let F : ℕ × ℕ → M = λ w. (withdraw_next w.0 c.args.read w.1 c.compare_exchange.result q.me.0, q.me.1) in
    c.compare_exchange.ensures.2.0 ∙ (λ i. F (eighth c.args.site i, takes_back c.args.read c.args.count c.requires.enough i))
