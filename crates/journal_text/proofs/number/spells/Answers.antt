use Rattle.std.proofs.Common.{sym, arith}
use Rattle.journal_text.proofs.Numbers.{spells_found, spells_none}
use Rattle.journal_text.proofs.number.spells.Goals as goal

pub returns-in-Some : goal.returns-in-Some
returns-in-Some c = spells_found c.args.number c.args.word.now c.in-Some.found (omega arith) (sym c.in-Some.ensures)

pub returns-in-None : goal.returns-in-None
returns-in-None c = sym (spells_none c.args.number c.args.word.now (omega arith) (sym c.in-None.ensures))
