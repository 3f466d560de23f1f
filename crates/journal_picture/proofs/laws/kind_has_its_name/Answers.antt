use Rattle.journal_picture.proofs.Named.{has_name}
use Rattle.journal_picture.proofs.laws.kind_has_its_name.Goals as goal

pub returns : goal.returns
returns c = has_name
