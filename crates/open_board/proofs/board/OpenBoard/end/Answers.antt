use Rattle.std.proofs.Common.{◌≡◌, ◌∙◌, sym, ap, arith, subst, ◌<◌, List, length, get_or}
use Rattle.std.specs.List.{remove}
use Rattle.open_board.specs.declared.seat.OpenSeat.{OpenSeat}
use Rattle.open_board.specs.Ending.{AreOthers, HasFrom}
use Rattle.open_board.proofs.Gathers.{first_default, others, finishes}
use Rattle.open_board.proofs.board.OpenBoard.end.Goals as goal

pub gather_all-requires-clause-board : goal.gather_all-requires-clause-board
gather_all-requires-clause-board c =
    let all : List OpenSeat = c.args.seats.items in let first : OpenSeat = c.remove-first.result in
    let lt : 0 < length all = omega (arith, c.args.self.is_size.some_hart, c.requires.all.count) in record {
      board = ap (λ (q : OpenSeat). q.seat.table_id) c.remove-first.ensures.value ∙ c.requires.all.boards 0 first lt;
      size = ap (λ (q : OpenSeat). q.seat.me.0.size) c.remove-first.ensures.value ∙ c.requires.all.sizes 0 first lt;
    }

pub gather_all-requires-clause-first : goal.gather_all-requires-clause-first
gather_all-requires-clause-first c =
    let all : List OpenSeat = c.args.seats.items in let first : OpenSeat = c.remove-first.result in
    let lt : 0 < length all = omega (arith, c.args.self.is_size.some_hart, c.requires.all.count) in (
      ap (λ (q : OpenSeat). q.seat.me.0.hart) c.remove-first.ensures.value ∙ c.requires.all.harts 0 first lt,
      ap (λ (q : OpenSeat). q.seat.me.0.stack) c.remove-first.ensures.value ∙ c.requires.base 0 first lt,
    )

pub gather_all-requires-clause-seats : goal.gather_all-requires-clause-seats
gather_all-requires-clause-seats c =
    let b = c.args.self in let all : List OpenSeat = c.args.seats.items in
    let lt : 0 < length all = omega (arith, b.is_size.some_hart, c.requires.all.count) in
    subst (AreOthers b.table.shared.table_id b.size) (sym c.remove-first.ensures.items) (others b.table.shared.table_id b.size all c.requires.all c.requires.base lt)

pub returns : goal.returns
returns c =
    let all : List OpenSeat = c.args.seats.items in
    let first : OpenSeat = c.remove-first.result in
    let q : OpenSeat = c.gather_all.new.first in
    let has : HasFrom q.seat.me.0 (remove all 0) 0 = subst (λ (qs : List OpenSeat). HasFrom q.seat.me.0 qs 0) c.remove-first.ensures.items c.gather_all.ensures.gathered in
    let lt : 0 < length all = omega (arith, c.args.self.is_size.some_hart, c.requires.all.count) in
    let same : (d : OpenSeat) → first ≡ get_or all 0 d = λ d. c.remove-first.ensures.value ∙ first_default all first d lt in
    let last = c.finish.ensures in
    finishes c.args.self.size last.0 last.1 q.seat.id q.seat.me.0 last.2 q.fits.hart c.gather_all.ensures.first.0 c.gather_all.ensures.first.1 all c.requires.all.count
    (λ d. c.gather_all.ensures.mine ∙ ap (λ (q : OpenSeat). q.seat.me.0.mine) (same d)) has
