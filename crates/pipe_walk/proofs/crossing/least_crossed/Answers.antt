use Rattle.std.proofs.Common.{sym}
use Rattle.array_meaning.specs.Stores.{cells_of}
use Rattle.site_walk.proofs.PieceLemmas.{first_none}
use Rattle.pipe_walk.specs.Inside.Tables.{past_in}
use Rattle.pipe_walk.proofs.crossing.least_crossed.Goals as goal

pub returns-then-not-may_cross : goal.returns-then-not-may_cross
returns-then-not-may_cross c =
    sym (first_none (λ cell. (past_in c.args.table.now.past cell).crossed) 0 (cells_of c.args.layout.now)
    (λ cell small. c.may_cross.ensures c.if-not-may_cross.true cell))
