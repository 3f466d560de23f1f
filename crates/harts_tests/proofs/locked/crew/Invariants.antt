use Rattle.std.specs.Prelude.{All}
use Rattle.hart_loop.specs.Harts.{StartsIn}
use Rattle.harts_tests.proofs.locked.crew.Given as goal

abbrev pub invariant-loop-number : goal.invariant-loop-number
invariant-loop-number g l = All (λ hart. StartsIn l.fn.shared.plan.now hart.port.port.view) l.harts.items
