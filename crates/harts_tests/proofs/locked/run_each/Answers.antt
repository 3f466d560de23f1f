-- A hart with a locked port may move to another thread.
use denote.Param.Send.{sendable}
use Rattle.hart_port.proofs.locked.LockedPort.TheSendSync as LockedPortCrosses
use Rattle.site_steps.proofs.waiting.WaitingPort.TheSendSync as WaitingPortCrosses
use Rattle.hart_loop.proofs.Crossings.{hart_send}
use Rattle.harts_tests.proofs.locked.run_each.Goals as goal

pub for_each_mut-requires-send-T : goal.for_each_mut-requires-send-T
for_each_mut-requires-send-T g c κs within = search (hart_send, WaitingPortCrosses.the_send, LockedPortCrosses.the_send, sendable) depth 20
