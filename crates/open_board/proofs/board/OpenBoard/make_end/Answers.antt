use Rattle.std.proofs.Common.{ℕ, ◌*◌, ◌==◌, sym, ap, ◌∙◌, arith, subst}
use prog.Atomic.{either}
use Rattle.atomic_table.specs.Table.{Allows}
use Rattle.open_table.specs.declared.table.Size.{Size}
use Rattle.open_rule.specs.Rule.{Stands}
use Rattle.open_board.specs.Plays.{Shows, ShowsAbove, end_next}
use Rattle.open_board.proofs.Taken as taken
use Rattle.open_board.proofs.Taken.{eighth, M}
use Rattle.open_board.proofs.board.OpenBoard.make_end.Goals as goal

pub compare_exchange-requires : goal.compare_exchange-requires
compare_exchange-requires c = let b = c.args.self.now in let q = c.args.seat.now in let x : ℕ = c.args.site in
    let P : Size × ℕ → Type 0 = λ w. Allows (Stands w.0) b.table.shared.table_id.slots q.id q.me (8 * x) (λ n. either (n == c.args.read) 0 n) (Shows (end_next w.1 c.args.read) (ShowsAbove q.me.0) q.me) in (
      c.requires.on.board,
      omega (arith, b.wide, c.requires.high),
      subst P (λ i. (sym b.key i, sym (eighth x) i)) (taken.ends b.size _ q.id q.me c.requires.on.seat x c.args.read c.requires.high c.requires.site c.requires.may c.requires.none),
    )

pub returns-clause-view : goal.returns-clause-view
returns-clause-view c = let q = c.args.seat.now in
    c.compare_exchange.ensures.2.0 ∙ ap (λ (x : ℕ). let r : M = (end_next x c.args.read c.compare_exchange.result q.me.0, q.me.1) in r) (eighth c.args.site)
