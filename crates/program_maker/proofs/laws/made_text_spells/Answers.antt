use Rattle.program_maker.proofs.Writing.{made_spelled}
use Rattle.program_maker.proofs.laws.made_text_spells.Goals as goal

pub returns : goal.returns
returns c = made_spelled
