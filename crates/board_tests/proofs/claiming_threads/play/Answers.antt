use Rattle.std.proofs.Common.{sym, ap, subst, ◌∙◌}
use Rattle.claim_words.specs.declared.seat.ClaimSeat.{ClaimSeat}
use Rattle.claim_words.specs.Seats.{identity, IsOf}
use Rattle.claim_words.proofs.Callers.{each_moved, each_of}
use Rattle.board_tests.proofs.claiming_threads.play.Goals as goal

pub for_each_mut-requires-clause-accepts : goal.for_each_mut-requires-clause-accepts
for_each_mut-requires-clause-accepts g c κs within = λ i p there is. (
  subst (λ (s : ClaimSeat). IsOf c.args.table.now (identity s)) (sym is) (each_of c.args.table.now c.args.seats.now c.requires.all.of i p.now there),
  c.requires.row,
)

pub returns : goal.returns
returns g c = each_moved c.args.seats.now c.for_each_mut.new.s c.for_each_mut.auto.s (λ h d below.
    let moved = (c.for_each_mut.ensures h d below).1 in
    ap identity (sym moved.left) ∙ moved.call ∙ ap identity moved.argument_is)
