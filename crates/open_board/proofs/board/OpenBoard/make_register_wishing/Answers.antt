use Rattle.std.proofs.Common.{ℕ, ◌+◌, ◌*◌, sym, ap, ◌∙◌, arith, subst}
use Rattle.atomic_table.specs.Table.{Allows}
use Rattle.open_table.specs.declared.table.Size.{Size}
use Rattle.open_rule.specs.Views.{registered_wishing}
use Rattle.open_rule.specs.Rule.{Stands}
use Rattle.open_board.specs.Plays.{Shows, nothing_more}
use Rattle.open_board.proofs.Taken as taken
use Rattle.open_board.proofs.Taken.{eighth, wishes, M}
use Rattle.open_board.proofs.board.OpenBoard.make_register_wishing.Goals as goal

pub store-requires : goal.store-requires
store-requires c = let b = c.args.self.now in let q = c.args.seat.now in let x : ℕ = c.args.site in
    let n : ℕ = 1 + c.args.count * 256 + c.args.owner * 4294967296 in
    let P : Size × ℕ × ℕ → Type 0 = λ w. Allows (Stands w.0) b.table.shared.table_id.slots q.id q.me (8 * x) (λ _. n) (λ found. Shows (λ _. registered_wishing w.1 w.2) nothing_more q.me n) in (
      c.requires.on.board,
      omega (arith, b.wide, c.requires.high),
      subst P (λ i. (sym b.key i, sym (eighth x) i, sym (wishes c.args.count c.args.owner (omega arith)) i))
          (taken.registers_wishing b.size _ q.id q.me c.requires.on.seat x n c.args.count c.requires.site (ap (λ (o : ℕ). 1 + c.args.count * 256 + o * 4294967296) c.requires.owner) c.requires.may),
    )

pub returns-clause-view : goal.returns-clause-view
returns-clause-view c = let q = c.args.seat.now in
    let F : ℕ × ℕ → M = λ w. (registered_wishing w.0 w.1 q.me.0, q.me.1) in
    c.store.ensures.2.0 ∙ (λ i. F (eighth c.args.site i, wishes c.args.count c.args.owner (omega arith) i))
