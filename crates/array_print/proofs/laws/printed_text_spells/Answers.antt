use Rattle.array_print.proofs.PrintedPrograms.{printed_spells}
use Rattle.array_print.proofs.laws.printed_text_spells.Goals as goal

pub returns : goal.returns
returns c = printed_spells
