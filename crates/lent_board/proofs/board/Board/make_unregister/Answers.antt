use Rattle.std.proofs.Common.{ℕ, ◌+◌, ◌%◌, ◌^◌, ◌<◌, sym, arith, subst}
use Rattle.atomic_table.specs.Table.{Allows}
use Rattle.transfer_table.specs.Plan.{Plan, parent}
use Rattle.board_rule.specs.Layouts.{entries_of, Adds}
use Rattle.board_rule.specs.Views.{unregister_view}
use Rattle.board_rule.specs.Rule.{Stands}
use Rattle.lent_board.specs.Plays.{Reports, IsPlaceOf}
use Rattle.lent_board.proofs.Allowed.{unregisters_at}
use Rattle.lent_board.proofs.Digits.{digit_of}
use Rattle.lent_board.proofs.board.Board.make_unregister.Goals as goal

pub fall-amount-requires-clause-digit : goal.fall-amount-requires-clause-digit
fall-amount-requires-clause-digit g c = let b = c.args.self.now in
    digit_of g.L.Laid.layout b.room.harts c.args.hart b.room.enough (subst (λ (n : ℕ). c.args.hart < n) (sym b.harts) (subst (λ (n : ℕ). n < b.plan.harts) c.requires.numbers.0 (subst (λ (p : Plan). c.args.seat.now.me.0.hart < p.harts) c.requires.on.plan c.requires.on.seat)))

pub fall-amount-requires-clause-down : goal.fall-amount-requires-clause-down
fall-amount-requires-clause-down g c = let r = c.args.self.now.is_plan.below c.args.owner c.requires.up.0.0 c.requires.up.0.1 in omega (arith, c.requires.up.1)

pub fall-amount-requires-clause-few : goal.fall-amount-requires-clause-few
fall-amount-requires-clause-few g c = omega (arith, c.requires.up.0.1, c.args.self.now.is_plan.few_sites)

pub fetch_add-requires : goal.fetch_add-requires
fetch_add-requires g c = let b = c.args.self.now in let q = c.args.seat.now in
    let k : ℕ = c.fall-amount.result in
    let adds : Adds g.L.Laid.layout q.me.0.owner q.me.0.hart (parent b.plan q.me.0.owner) k = rw (c.requires.numbers.0, c.requires.numbers.1) (rw (← c.requires.up.1) c.fall-amount.ensures) in
    let P : Plan → Type 0 = λ p. Allows (Stands g.L.Laid.layout p) b.table.shared.table_id.slots q.id q.me 0 (λ n. (n + k) % 2 ^ 64) (Reports (λ n. unregister_view (entries_of g.L.Laid.layout n)) (IsPlaceOf g.L.Laid.layout q.me.0) q.me) in (
      c.requires.on.board,
      omega (arith, b.wide),
      subst P (sym b.key) (unregisters_at g.L.Laid.layout b.plan _ q.id q.me c.requires.on.seat k c.requires.may adds),
    )
