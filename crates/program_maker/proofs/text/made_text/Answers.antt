use Rattle.std.proofs.Common.{sym, subst, rules}
use Rattle.array_tree.specs.Trees.{ProgramTree}
use Rattle.array_print.specs.Spellings.{IsSpelledButLines}
use Rattle.array_print.specs.Texts.{printed}
use Rattle.program_maker.specs.Made.{made_program}
use Rattle.program_maker.proofs.Writing.{made_spelled}
use Rattle.program_maker.proofs.Lengths.{short_answer}
use Rattle.program_maker.proofs.text.made_text.Goals as goal

pub print-requires : goal.print-requires
print-requires c =
    subst (λ (p : ProgramTree). IsSpelledButLines p) (sym c.in_ok-program.ensures)
    (printed (made_program c.args.seed c.args.size), made_spelled c.args.seed c.args.size c.requires.few)

pub returns-clause-short : goal.returns-clause-short
returns-clause-short c = short_answer c.print.result (λ text. text.items) c.args.seed c.args.size c.requires.few (search rules)
