use Rattle.std.proofs.Common.{ap, subst, ◌∙◌}
use Rattle.transfer_table.specs.Plan.{Plan, IsPlan}
use Rattle.transfer_table.specs.Table.{Position}
use Rattle.transfer_table.specs.Journal.{first_fault_of}
use Rattle.transfer_table.proofs.Faults.{none-complete}
use Rattle.transfer_table.proofs.fault.first_fault.Goals as goal

pub returns-clause-complete : goal.returns-clause-complete
returns-clause-complete c = let same = ap (λ (b : Position). b.plan) c.in_ok-board.ensures.first in none-complete c.args.plan.now (subst IsPlan same c.in_ok-board.ensures.kept.plan) c.args.meant.now c.args.list.now c.requires.meant c.fault_on.result
    (c.fault_on.ensures ∙ ap (λ (p : Plan). first_fault_of p c.args.meant.now c.args.list.now) same)
