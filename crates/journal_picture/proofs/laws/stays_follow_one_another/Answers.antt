use Rattle.std.proofs.Common.{arith}
use Rattle.journal_picture.proofs.Places.{follow}
use Rattle.journal_picture.proofs.laws.stays_follow_one_another.Goals as goal

pub returns : goal.returns
returns c = λ p es h. follow p h 0 0 0 es (omega arith)
