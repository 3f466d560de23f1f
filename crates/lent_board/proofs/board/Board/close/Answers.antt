use Rattle.std.proofs.Common.{◌≡◌, ◌∙◌, ap, arith, subst, ◌<◌, List, length, get_or}
use Rattle.std.specs.List.{remove}
use Rattle.transfer_table.proofs.Lists.{any_default}
use Rattle.hart_port.specs.PortView.{is_in}
use Rattle.board_rule.specs.declared.view.View.{View}
use Rattle.lent_board.specs.declared.seat.HartSeat.{HartSeat}
use Rattle.lent_board.specs.Seats.{HasFrom}
use Rattle.lent_board.proofs.Gathers.{removed_length, all_ended, is_journal_of}
use Rattle.lent_board.proofs.board.Board.close.Goals as goal

pub finish-list-requires-clause-first : goal.finish-list-requires-clause-first
finish-list-requires-clause-first g c =
    let all : List HartSeat = c.args.seats.items in
    let first : HartSeat = c.remove-first.result in
    let v : View = c.gather_all.new.first.seat.me.0 in
    let count : length all ≡ c.args.self.plan.harts = c.requires.count in
    let lt : 0 < length all = omega (arith, c.args.self.is_plan.some_hart) in
    let less = removed_length all lt in
    let has : HasFrom v (remove all 0) 0 = subst (λ (qs : List HartSeat). HasFrom v qs 0) c.remove-first.ensures.items c.gather_all.ensures.gathered in (
      c.gather_all.ensures.hart,
      c.gather_all.ensures.plan ∙ (ap (λ (q : HartSeat). q.seat.me.0.plan) c.remove-first.ensures.value ∙ c.requires.plans 0 first lt),
      all_ended c.args.self.plan v (remove all 0) first (omega arith) has,
    )

pub returns-clause-journal : goal.returns-clause-journal
returns-clause-journal g c =
    let all : List HartSeat = c.args.seats.items in
    let first : HartSeat = c.remove-first.result in
    let v : View = c.gather_all.new.first.seat.me.0 in
    let has : HasFrom v (remove all 0) 0 = subst (λ (qs : List HartSeat). HasFrom v qs 0) c.remove-first.ensures.items c.gather_all.ensures.gathered in
    let lt : 0 < length all = omega (arith, c.args.self.is_plan.some_hart, c.requires.count) in
    let same : (d : HartSeat) → first ≡ get_or all 0 d = λ d. c.remove-first.ensures.value ∙ any_default all 0 first d lt in
    is_journal_of c.args.self.plan c.args.self.is_plan v all c.finish-list.result.items c.requires.count
    (λ d. (c.gather_all.ensures.mine.0 ∙ ap (λ (q : HartSeat). q.seat.me.0.mine) (same d), c.gather_all.ensures.mine.1 ∙ ap (λ (q : HartSeat). q.seat.me.0.places) (same d)))
    (λ d x is. c.gather_all.ensures.gone x (ap (λ (q : HartSeat). is_in q.seat.me.0.marks.gone x) (same d) ∙ is))
    has c.finish-list.ensures
