use Rattle.array_tree.specs.Trees.{program_of}
use Rattle.array_print.proofs.LinelessTexts.{answer_spells}
use Rattle.array_print.proofs.program.print.Goals as goal

pub returns-clause-spelled : goal.returns-clause-spelled
returns-clause-spelled c = answer_spells c.program_text.result (λ text. text.items) (program_of c.args.program.now) c.requires c.program_text.ensures
