use Rattle.std.proofs.Common.{◌≡◌}
use Rattle.claim_words.specs.Seats.{identity}
use Rattle.board_tests.proofs.claiming_threads.claim_all.Given as goal

abbrev pub invariant-loop : goal.invariant-loop
invariant-loop l = identity l.seat ≡ identity l.initial.seat
