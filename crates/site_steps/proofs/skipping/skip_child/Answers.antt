use Rattle.std.proofs.Common.{◌≡◌, rules}
use Rattle.transfer_table.specs.Plan.{IsSite, parent}
use Rattle.site_steps.proofs.Skipped.{child_claimed, count_rose, skipped_no_child, skipped_one}
use Rattle.site_steps.proofs.skipping.skip_child.Goals as goal

pub returns-then-is_child-clause-claimed : goal.returns-then-is_child-clause-claimed
returns-then-is_child-clause-claimed g c = child_claimed (g.P.Port.seen c.args.port.now) (g.P.Port.seen c.skip.new.self) c.args.site c.skip.result c.skip.ensures.does

pub returns-then-is_child-clause-count : goal.returns-then-is_child-clause-count
returns-then-is_child-clause-count g c = count_rose c.skip.result (g.P.Port.refused c.args.port.now) (g.P.Port.refused c.skip.new.self) c.skip.ensures.count

pub returns-then-is_child-clause-skipped : goal.returns-then-is_child-clause-skipped
returns-then-is_child-clause-skipped g c =
    let h = g.P.Port.seen c.args.port.now in
    let site : IsSite h.plan c.args.site = search rules in
    let child : parent h.plan c.args.site ≡ h.owner = search rules in
    skipped_one g.P.Port.skip_gives h (g.P.Port.seen c.skip.new.self) c.args.port.now c.skip.new.self (g.P.Port.refused c.args.port.now) (g.P.Port.refused c.skip.new.self)
    c.args.site c.skip.result site child c.skip.ensures.does c.skip.ensures.gives c.skip.ensures.count

pub returns-else-is_child-clause-skipped : goal.returns-else-is_child-clause-skipped
returns-else-is_child-clause-skipped g c =
    skipped_no_child g.P.Port.skip_gives (g.P.Port.seen c.args.port.now) (g.P.Port.refused c.args.port.now) c.args.site (λ is. search rules)
