use Rattle.journal_picture.proofs.StripHolds.{strip_has}
use Rattle.journal_picture.proofs.laws.strip_has_figures.Goals as goal

pub returns : goal.returns
returns c = strip_has
