use Rattle.std.proofs.Common.{◌≡◌, sym, ap, arith, subst, List, length}
use Rattle.transfer_table.specs.Plan.{Plan}
use Rattle.atomic_table.specs.Table.{Splits}
use Rattle.board_rule.specs.declared.view.View.{View}
use Rattle.board_rule.specs.Rule.{Stands}
use Rattle.board_rule.specs.Views.{split_left, split_right}
use Rattle.lent_board.specs.declared.seat.HartSeat.{HartSeat}
use Rattle.lent_board.specs.Seats.{IsNewSeat}
use Rattle.lent_board.proofs.Split.{splits}
use Rattle.lent_board.proofs.making.next_seat.Goals as goal

pub split_seat-seat-requires : goal.split_seat-seat-requires
split_seat-seat-requires g c = let b = c.args.board.now in let q : HartSeat = c.index_mut-first.result.now in
    let old : List HartSeat = c.args.seats.now.items in
    let F : HartSeat → Type 0 = λ x. IsNewSeat b.table.shared.table_id b.plan (length old) 0 x in
    let new : F q = subst F (sym c.index_mut-first.ensures.value) (c.requires.seats 0 q (let n = c.requires.count in omega arith)) in
    let plan : q.seat.me.0.plan ≡ b.plan = ap (λ (v : View). v.plan) new.view in
    let hart : q.seat.me.0.hart ≡ 0 = ap (λ (v : View). v.hart) new.view in
    let made : q.seat.me.0.made ≡ length old = ap (λ (v : View). v.made) new.view in
    let P : Plan → Type 0 = λ p. Splits (Stands g.L.Laid.layout p) q.seat.id q.seat.me.0 (split_left q.seat.me.0) (split_right q.seat.me.0) in (
      new.board,
      omega (arith, b.wide),
      subst P (sym b.key) (splits g.L.Laid.layout b.plan q.seat.id q.seat.me.0 hart plan (let n = c.requires.count in omega arith) q.idle),
    )
