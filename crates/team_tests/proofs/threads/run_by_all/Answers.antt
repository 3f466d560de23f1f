-- A hart that runs a team may move to another thread.
use denote.Param.Send.{IsSend, sendable}
use denote.Param.SendFields.{declared_send}
use denote.Ref.{NamedLft}
use Rattle.claim_words.proofs.seat.ClaimSeat.TheSendSync as ClaimSeatCrosses
use Rattle.claim_words.proofs.table.ClaimTable.TheSendSync as ClaimTableCrosses
use Rattle.loop_team.proofs.Crossings.{shared_team_sync}
use Rattle.team_tests.specs.contracts.threads.Runner as Runner
use Rattle.team_tests.proofs.threads.Begun.TheSendSync as BegunCrosses
use Rattle.team_tests.proofs.threads.run_by_all.Goals as goal

runner_send : (x p : NamedLft) → IsSend (Runner.the_row x p)
runner_send x p =
    let team = shared_team_sync p in let table = ClaimTableCrosses.the_sync in let begun = BegunCrosses.the_sync in let seat = ClaimSeatCrosses.the_send in
    declared_send (Runner.the_type x p)
    (search sendable depth 20, (search sendable depth 20, (search sendable depth 20, (search sendable depth 20, tt))))

pub for_each_mut-requires-send-T : goal.for_each_mut-requires-send-T
for_each_mut-requires-send-T g c κs within = search (runner_send, sendable) depth 20
