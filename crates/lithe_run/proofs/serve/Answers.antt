use Rattle.std.proofs.Common.{sym}
use Rattle.lithe_run.proofs.serve.Goals as goal

pub returns-in-Ok-clause-served : goal.returns-in-Ok-clause-served
returns-in-Ok-clause-served g c = rw c.in-Ok.is (rw (sym c.deref.ensures.value) c.lithe.ensures.served)
