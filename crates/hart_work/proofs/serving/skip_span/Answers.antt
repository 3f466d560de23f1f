use Rattle.std.proofs.Common.{◌≡◌, ◌∙◌, ◌++◌, ◌+◌, ◌-◌, ◌≤◌, ◌<◌, ℕ, List, map, true, refl, sym, ap, subst, arith}
use Rattle.std.specs.List.{All}
use Rattle.std.proofs.lemmas.List.Elements.{All-map, All-weaker}
use Rattle.transfer_table.specs.Entry.{site_of, is_skip, registers, skips_over}
use Rattle.transfer_table.specs.Plan.{Plan, IsPlan, IsSite, parent}
use Rattle.transfer_table.specs.declared.entry.Entry.{Entry}
use Rattle.transfer_table.specs.declared.entry.Entry.TheVariants.{Skip}
use Rattle.hart_port.specs.PortView.{PortView}
use Rattle.site_steps.specs.Skips.{IsChildBetween}
use Rattle.transfer_table.specs.AccountLaws.{IsSkippedSpan}
use Rattle.transfer_table.proofs.Spans.{fresh_spans_are_skipped}
use Rattle.hart_work.proofs.serving.skip_span.Goals as goal

-- The same skips, by the number of sites.
abbrev IsWithin : ℕ → ℕ → Entry → Type 0
IsWithin first n e = (is_skip e ≡ true) × (first ≤ site_of e) × (site_of e < first + n)

within : (h : PortView) (first end : ℕ) (sites : List ℕ) → All (IsChildBetween h first end) sites → All (IsWithin first (end - first)) (map (λ s. Skip h.hart s) sites)
within h first end sites all = All-map (IsWithin first (end - first)) (λ s. Skip h.hart s) sites
    (All-weaker (IsChildBetween h first end) (λ s. IsWithin first (end - first) (Skip h.hart s)) (λ s is. let low = is.low in let high = is.high in (refl, low, omega (arith, low, high))) sites all)

pub returns-clause-skipped : goal.returns-clause-skipped
returns-clause-skipped g c = λ alone span fresh.
    let h = g.P.Port.seen c.args.port.now in
    let a = g.P.Port.seen c.skip_sites.new.port in
    let skipped = c.skip_sites.ensures.skipped in
    let made = map (λ s. Skip h.hart s) skipped.sites in
    let is_plan = c.plan-plan.ensures.kept in
    let n = c.args.end - c.args.first in
    let mine : a.mine ≡ h.mine ++ made = ap (λ (v : PortView). v.mine) skipped.same in
    let plan : a.plan ≡ h.plan = ap (λ (v : PortView). v.plan) skipped.same in
    let own : a.owner ≡ h.owner = ap (λ (v : PortView). v.owner) skipped.same in
    let claimed : (x : ℕ) → c.args.first ≤ x → x < c.args.first + n → IsSite h.plan x → parent h.plan x ≡ h.owner → 1 ≤ registers x (h.mine ++ made) + skips_over h.plan x (h.mine ++ made) =
    λ x low high site up.
    let below : x < c.args.end = omega (arith, low, high) in
    subst (λ es. 1 ≤ registers x es + skips_over h.plan x es) mine (subst (λ (p : Plan). 1 ≤ registers x a.mine + skips_over p x a.mine) plan
    (c.skip_sites.ensures.claimed (ap (λ (v : PortView). v.alone) skipped.same ∙ alone) x low below (subst (λ p. IsSite p x) (sym plan) site) (subst (λ p. parent p x ≡ a.owner) (sym plan) (up ∙ sym own)))) in
    subst (λ es. IsSkippedSpan h.plan h.mine es c.args.first n) (sym mine)
    (fresh_spans_are_skipped h.plan h.mine made h.owner c.args.first n (subst IsPlan (sym c.requires.plan) is_plan) span fresh (within h c.args.first c.args.end skipped.sites skipped.children) claimed)
