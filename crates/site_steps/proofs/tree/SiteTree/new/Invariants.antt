use Rattle.std.proofs.Common.{◌-◌}
use Rattle.transfer_table.specs.Plan.{site_count}
use Rattle.site_steps.specs.Children.{AreLinkedFrom}
use Rattle.site_steps.proofs.tree.SiteTree.new.Given as goal

abbrev pub invariant-loop-linked : goal.invariant-loop-linked
invariant-loop-linked l = record {
  links : AreLinkedFrom l.plan (site_count l.plan - l.linked) l.first.items l.next.items;
}
