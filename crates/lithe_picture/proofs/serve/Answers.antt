use Rattle.std.proofs.Common.{sym}
use Rattle.lithe_picture.proofs.serve.Goals as goal

pub returns-in-Ok-clause-shown : goal.returns-in-Ok-clause-shown
returns-in-Ok-clause-shown g c = rw c.in-Ok.is (rw (sym c.deref.ensures.value) c.serve_picture.ensures.shown)
