use Rattle.std.proofs.Common.{◌+◌, inl, inr, arith, map}
use Rattle.std.proofs.lemmas.Bool.{cases_lt}
use Rattle.transfer_table.specs.declared.entry.Entry.TheVariants.{Skip}
use Rattle.site_steps.proofs.Skipped.{skipped_then, skipped_within, skipped_back, claimed_then}
use Rattle.site_steps.proofs.skipping.skip_sites.Goals as goal

pub sites-preserved : goal.sites-preserved
sites-preserved g c =
    let a = g.P.Port.seen c.args.port.now in
    let b = g.P.Port.seen c.sites.port in
    let d = g.P.Port.seen c.skip_child.new.port in
    let i = c.sites.site in
    let low = c.sites.auto.site in
    let small = c.sites-test.true in
    let before = c.sites.invariant.count in
    let after = c.skip_child.ensures.count in
    let one = c.skip_child.ensures.skipped in
    record {
      skipped = skipped_then g.P.Port.skip_gives a b d (g.P.Port.refused c.args.port.now) (g.P.Port.refused c.sites.port) (g.P.Port.refused c.skip_child.new.port)
          c.args.first i (i + 1) low (omega arith) before after c.sites.invariant.skipped one;
      count = omega (arith, before, after);
      claimed = claimed_then b d (map (λ s. Skip b.hart s) one.sites) c.args.first i (i + 1) one.same c.sites.invariant.claimed c.skip_child.ensures.claimed;
      none = λ back. absurd (omega (arith, low, small, back));
    }

pub returns-clause-skipped : goal.returns-clause-skipped
returns-clause-skipped g c =
    let a = g.P.Port.seen c.args.port.now in
    let b = g.P.Port.seen c.sites.port in
    let over = c.sites-test.false in
    skipped_within g.P.Port.skip_gives a b (g.P.Port.refused c.args.port.now) (g.P.Port.refused c.sites.port) c.args.first c.sites.site c.args.end
    (λ x low high. elim (cases_lt c.args.end c.args.first) [
      | inl back ↦ absurd (let none = c.sites.invariant.none back in omega (arith, low, high, none))
      | inr right ↦ let end = c.sites.auto.site-end right in omega (arith, high, end)
    ])
    (λ x low high. omega (arith, high, over)) c.sites.invariant.skipped

pub returns-clause-back : goal.returns-clause-back
returns-clause-back g c =
    let made = c.sites.invariant.skipped in
    skipped_back (g.P.Port.seen c.args.port.now) (g.P.Port.seen c.sites.port) (map (λ s. Skip (g.P.Port.seen c.args.port.now).hart s) made.sites) c.requires.inner made.same
