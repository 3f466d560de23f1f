use Rattle.std.proofs.Common.{ℕ, ◌+◌, ◌%◌, ◌^◌, ◌<◌, sym, arith, subst}
use Rattle.atomic_table.specs.Table.{Allows}
use Rattle.transfer_table.specs.Plan.{Plan}
use Rattle.board_rule.specs.Layouts.{entries_of, Adds}
use Rattle.board_rule.specs.Views.{register_view}
use Rattle.board_rule.specs.Rule.{Stands}
use Rattle.lent_board.specs.Plays.{Reports, IsNewPlace}
use Rattle.lent_board.proofs.Allowed.{registers_at}
use Rattle.lent_board.proofs.Digits.{digit_of}
use Rattle.lent_board.proofs.board.Board.make_register.Goals as goal

pub rise-amount-requires-clause-digit : goal.rise-amount-requires-clause-digit
rise-amount-requires-clause-digit g c = let b = c.args.self.now in
    digit_of g.L.Laid.layout b.room.harts c.args.hart b.room.enough (subst (λ (n : ℕ). c.args.hart < n) (sym b.harts) (subst (λ (n : ℕ). n < b.plan.harts) c.requires.numbers.0 (subst (λ (p : Plan). c.args.seat.now.me.0.hart < p.harts) c.requires.on.plan c.requires.on.seat)))

pub rise-amount-requires-clause-up : goal.rise-amount-requires-clause-up
rise-amount-requires-clause-up g c = let r = c.args.self.now.is_plan.below c.args.site c.requires.child.0.0 c.requires.child.0.1 in omega (arith, c.requires.child.1)

pub fetch_add-requires : goal.fetch_add-requires
fetch_add-requires g c = let b = c.args.self.now in let q = c.args.seat.now in let x : ℕ = c.args.site in
    let k : ℕ = c.rise-amount.result in
    let adds : Adds g.L.Laid.layout q.me.0.owner q.me.0.hart x k = rw (c.requires.numbers.0, c.requires.numbers.1) c.rise-amount.ensures in
    let P : Plan → Type 0 = λ p. Allows (Stands g.L.Laid.layout p) b.table.shared.table_id.slots q.id q.me 0 (λ n. (n + k) % 2 ^ 64) (Reports (λ n. register_view (entries_of g.L.Laid.layout n)) (IsNewPlace g.L.Laid.layout q.me.0) q.me) in (
      c.requires.on.board,
      omega (arith, b.wide),
      subst P (sym b.key) (registers_at g.L.Laid.layout b.plan _ q.id q.me c.requires.on.seat x k c.requires.claiming adds),
    )
