use Rattle.std.proofs.Common.{◌≡◌, ◌≤◌, arith, rules, sym, ap, ◌∙◌}
use Rattle.transfer_table.specs.Plan.{site_count}
use Rattle.journal_picture.specs.Strip.{unmet_up_to, wishing_up_to}
use Rattle.journal_picture.proofs.Wishes.{unmet_level, wishing_level}
use Rattle.journal_picture.proofs.strip.wishes_in.Goals as goal

-- The sites below the range add nothing.
pub loop-i-init : goal.loop-i-init
loop-i-init c =
    let p = c.args.board.now.plan in
    let t = c.args.board.now.state in
    let low = c.args.wishing.low in (
      sym (unmet_level t 0 low (omega arith) (λ s from to. c.requires.below s (omega (arith, from)) to)),
      omega arith,
      sym (wishing_level p t 0 low (omega arith) (λ s from to. c.requires.below s (omega (arith, from)) to)),
      c.requires.order,
    )

-- Nor do those above it.
pub returns-clause-unmet : goal.returns-clause-unmet
returns-clause-unmet c =
    let p = c.args.board.now.plan in
    let t = c.args.board.now.state in
    let high = c.args.wishing.high in
    let past : high ≤ c.loop-i.i = search rules in
    let most : c.loop-i.i ≤ high = c.loop-i.invariant.3 in
    let stop : c.loop-i.i ≡ high = omega (arith, past, most) in
    c.loop-i.invariant.0 ∙ (ap (unmet_up_to t) stop ∙ sym (unmet_level t high (site_count p) c.requires.fits c.requires.above))

pub returns-clause-wishing : goal.returns-clause-wishing
returns-clause-wishing c =
    let p = c.args.board.now.plan in
    let t = c.args.board.now.state in
    let high = c.args.wishing.high in
    let past : high ≤ c.loop-i.i = search rules in
    let most : c.loop-i.i ≤ high = c.loop-i.invariant.3 in
    let stop : c.loop-i.i ≡ high = omega (arith, past, most) in
    c.loop-i.invariant.2 ∙ (ap (wishing_up_to p t) stop ∙ sym (wishing_level p t high (site_count p) c.requires.fits c.requires.above))
