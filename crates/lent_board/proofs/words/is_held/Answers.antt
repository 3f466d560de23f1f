use Rattle.std.proofs.Common.{sym}
use Rattle.lent_board.proofs.Ports.{held_by, held_by_none}
use Rattle.lent_board.proofs.words.is_held.Goals as goal

pub returns-in-Some : goal.returns-in-Some
returns-in-Some c = sym (held_by c.args.harts c.args.word c.args.hart c.args.site _ c.in-Some.ensures.some)

pub returns-in-None : goal.returns-in-None
returns-in-None c = sym (held_by_none c.args.harts c.args.word c.args.hart c.args.site c.in-None.ensures.none)
