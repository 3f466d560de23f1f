use Rattle.std.proofs.Common.{take}
use Rattle.task_trace.specs.Chrome.{Grows, hart_members}
use Rattle.task_trace.proofs.chrome.write_hart.Given as goal

abbrev pub invariant-events : goal.invariant-events
invariant-events g l = Grows (g.S.Serializer.written l.fn.out) (g.S.Serializer.written l.out) (hart_members l.hart (take l.index l.events))
