use Rattle.std.proofs.Common.{sym, ◌∙◌}
use Rattle.transfer_table.proofs.Plans.{is_plan}
use Rattle.transfer_table.proofs.plan.Plan.new.Goals as goal

pub invariant_of-result : goal.invariant_of-result
invariant_of-result c = rw c.in_ok-parents.ensures.items (is_plan c.args.harts c.args.parents.now (sym c.fault_of.ensures ∙ c.in_default.is))

pub returns-clause-kept : goal.returns-clause-kept
returns-clause-kept c = rw c.in_ok-parents.ensures.items (is_plan c.args.harts c.args.parents.now (sym c.fault_of.ensures ∙ c.in_default.is))
