use Rattle.array_lang.proofs.OneProgram.{one_text}
use Rattle.array_lang.proofs.laws.one_program.Goals as goal

pub returns : goal.returns
returns c = one_text
