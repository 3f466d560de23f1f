use Rattle.std.proofs.Common.{rules, ◌≡◌, ◌+◌, [], ◌∷◌, ◌++◌, List, length, sym, subst, arith}
use Rattle.lent_board.specs.declared.seat.HartSeat.{HartSeat}
use Rattle.lent_board.specs.Seats.{AreAll}
use Rattle.board_tests.proofs.SeatRows.{are_all}
use Rattle.board_tests.proofs.seats.close.Goals as goal

pub close-requires : goal.close-requires
close-requires g c = let items : c.push.new.self.items ≡ c.args.first ∷ (c.args.between.items ++ c.args.last ∷ []) = search rules in
    let count : length c.args.between.items + 2 ≡ c.args.board.plan.harts = omega (arith, c.args.between.ok.0, c.requires.count) in
    let P : List HartSeat → Type 0 = λ qs. AreAll c.args.board.table.shared.table_id c.args.board.plan qs in
    subst P (sym items) (are_all c.args.board c.args.last c.args.first c.args.between.items count c.requires.ends.0 c.requires.ends.1 c.requires.between)
