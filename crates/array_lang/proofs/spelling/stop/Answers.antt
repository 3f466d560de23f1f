use Rattle.array_lang.proofs.Whole.{begins_read}
use Rattle.array_lang.proofs.spelling.stop.Goals as goal

pub returns : goal.returns
returns c = begins_read _ _ c.in_ok-program.ensures
