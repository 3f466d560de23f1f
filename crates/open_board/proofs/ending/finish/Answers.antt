use Rattle.std.proofs.Common.{subst}
use Rattle.open_table.specs.declared.table.Size.{Size}
use Rattle.open_rule.specs.Rule.{Stands}
use Rattle.open_board.proofs.ending.finish.Goals as goal

pub returns : goal.returns
returns c = let b = c.args.board in let f = c.close_with.ensures.values.2 in
    let P : Size → Type 0 = λ p. Stands p f.0 in
    (f.0, subst P b.key f.1.0, f.1.1)
