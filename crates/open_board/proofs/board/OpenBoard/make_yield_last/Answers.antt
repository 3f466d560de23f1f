use Rattle.std.proofs.Common.{ℕ, ◌+◌, ◌-◌, ◌*◌, ◌%◌, ◌^◌, sym, ap, ◌∙◌, arith, subst}
use Rattle.atomic_table.specs.Table.{Allows}
use Rattle.open_table.specs.declared.table.Size.{Size}
use Rattle.open_table.specs.declared.table.Act.TheVariants.{Yield}
use Rattle.open_rule.specs.Views.{acted}
use Rattle.open_rule.specs.Rule.{Stands}
use Rattle.open_board.specs.Plays.{Shows, ShowsAbove}
use Rattle.open_board.specs.Calls.{HasFound}
use Rattle.open_board.proofs.Taken as taken
use Rattle.open_board.proofs.Taken.{eighth, M}
use Rattle.open_board.proofs.board.OpenBoard.make_yield_last.Goals as goal

pub fetch_sub-requires : goal.fetch_sub-requires
fetch_sub-requires c = let b = c.args.self.now in let q = c.args.seat.now in let x : ℕ = c.args.site in
    let P : Size × ℕ → Type 0 = λ w. Allows (Stands w.0) b.table.shared.table_id.slots q.id q.me (8 * x) (λ n. (n + (2 ^ 64 - 65536)) % 2 ^ 64) (Shows (λ _. acted (Yield w.1)) (λ found. ShowsAbove q.me.0 found × HasFound q.me.0.size q.me.0 found) q.me) in (
      c.requires.on.board,
      omega (arith, b.wide, c.requires.high),
      subst P (λ i. (sym b.key i, sym (eighth x) i)) (taken.yields_last b.size _ q.id q.me c.requires.on.seat x c.requires.site c.requires.may),
    )

pub returns-clause-view : goal.returns-clause-view
returns-clause-view c = let q = c.args.seat.now in
    c.fetch_sub.ensures.2.0 ∙ ap (λ (x : ℕ). let r : M = (acted (Yield x) q.me.0, q.me.1) in r) (eighth c.args.site)
