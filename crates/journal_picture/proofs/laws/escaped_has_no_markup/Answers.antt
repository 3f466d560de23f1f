use Rattle.journal_picture.proofs.EscapedHolds.{no_markup}
use Rattle.journal_picture.proofs.laws.escaped_has_no_markup.Goals as goal

pub returns : goal.returns
returns c = no_markup
