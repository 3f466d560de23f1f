use Rattle.std.proofs.Common.{sym, ap, ◌∙◌, arith}
use Rattle.deque_rows.specs.declared.hart.HartRows.{HartRows}
use Rattle.deque_rows.specs.Rows.{identity}
use Rattle.deque_rows.proofs.Callers.{each_moved, reaches_all}
use Rattle.board_tests.proofs.stealing_threads.play.Goals as goal

pub for_each_mut-requires-clause-accepts : goal.for_each_mut-requires-clause-accepts
for_each_mut-requires-clause-accepts g c κs within = λ i p there is.
    let all = ap (λ (r : HartRows). r.harts) is ∙ reaches_all c.args.rows.now c.requires i p.now there in
    omega (arith, all, there)

pub returns : goal.returns
returns g c = each_moved c.args.rows.now c.for_each_mut.new.s c.for_each_mut.auto.s (λ h d below.
    let moved = (c.for_each_mut.ensures h d below).1 in
    ap identity (sym moved.left) ∙ moved.call ∙ ap identity moved.argument_is)
