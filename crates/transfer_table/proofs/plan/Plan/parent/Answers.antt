use Rattle.std.proofs.Common.{ap, sym, ◌∙◌}
use Rattle.transfer_table.specs.Plan.{parent}
use Rattle.transfer_table.proofs.Plans.{parent-outside}
use Rattle.transfer_table.proofs.plan.Plan.parent.Goals as goal

pub returns-then-site-eq0-clause-same : goal.returns-then-site-eq0-clause-same
returns-then-site-eq0-clause-same c = sym (ap (parent c.args.self.now) c.if-site-eq0.true ∙ parent-outside c.args.self.now (rw (← c.self.view_is) c.self.invariant))
