use Rattle.std.proofs.Common.{take}
use Rattle.task_trace.specs.Chrome.{Grows, members_from}
use Rattle.task_trace.proofs.chrome.write_harts.Given as goal

abbrev pub invariant-harts : goal.invariant-harts
invariant-harts g l = Grows (g.S.Serializer.written l.fn.out) (g.S.Serializer.written l.out) (members_from 0 (take l.hart l.harts))
