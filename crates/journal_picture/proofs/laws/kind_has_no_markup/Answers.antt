use Rattle.journal_picture.proofs.Named.{no_kind_markup}
use Rattle.journal_picture.proofs.laws.kind_has_no_markup.Goals as goal

pub returns : goal.returns
returns c = no_kind_markup
