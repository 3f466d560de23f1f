use Rattle.std.proofs.Common.{◌≡◌}
use Rattle.forkjoin_sched.specs.Hands.{Keeps, TakesMore}
use Rattle.forkjoin_sched.proofs.pieces.take_piece.Given as goal

abbrev pub invariant-loop : goal.invariant-loop
invariant-loop g l = Keeps l.initial.rows l.rows × (l.rows.harts ≡ l.initial.rows.harts) × TakesMore l.home l.level l.initial.rows l.rows
