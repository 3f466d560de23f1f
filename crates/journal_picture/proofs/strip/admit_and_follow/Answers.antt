use Rattle.std.proofs.Common.{rules, ◌≡◌, ℕ, ◌-◌, ◌<◌, ◌≤◌, sym, ap, subst, ◌∙◌}
use Rattle.transfer_table.specs.Plan.{Plan, site_count}
use Rattle.transfer_table.specs.Entry.{site_of}
use Rattle.transfer_table.specs.Table.{Position}
use Rattle.journal_picture.specs.Strip.{HasWishesWithin}
use Rattle.journal_picture.proofs.Wishes.{wishes_grow}
use Rattle.journal_picture.proofs.strip.admit_and_follow.Goals as goal
use Rattle.journal_picture.proofs.strip.admit_and_follow.Goals.{then-place-wishing, else-place-wishing, then-wishing-place, else-wishing-place}

-- The range that has the entry's site too has all wishes after the entry.
pub first_wish-requires : goal.first_wish-requires
first_wish-requires c =
    let old = c.args.board.now in
    let low = c.if-place-wishing.low in
    let high = c.if-wishing-place.high in
    let place = c.saturating_sub-place.result in
    let few : c.sites.result ≡ site_count old.plan =
    c.sites.ensures.same ∙ ap (λ (p : Plan). site_count p) (c.plan.ensures.same ∙ ap (λ (b : Position). b.plan) c.admit.ensures) in
    let inside = c.if-place-sites.false in
    let fits = c.requires.fits in
    let down : low ≤ c.args.wishing.low = elim c.if-place-wishing.branch [ then-place-wishing w ↦ search rules | else-place-wishing w ↦ search rules ] in
    let under : low ≤ place = elim c.if-place-wishing.branch [ then-place-wishing w ↦ search rules | else-place-wishing w ↦ search rules ] in
    let up : c.args.wishing.high ≤ high = elim c.if-wishing-place.branch [ then-wishing-place w ↦ search rules | else-wishing-place w ↦ search rules ] in
    let over : place < high = elim c.if-wishing-place.branch [ then-wishing-place w ↦ search rules | else-wishing-place w ↦ search rules ] in
    let most : high ≤ site_count old.plan = elim c.if-wishing-place.branch [ then-wishing-place w ↦ search rules | else-wishing-place w ↦ search rules ] in
    let here : place ≡ site_of c.args.entry - 1 = c.saturating_sub-place.ensures ∙ ap (λ (s : ℕ). s - 1) c.site_of.ensures in
    subst (λ (b : Position). HasWishesWithin b.plan b.state low high) (sym c.admit.ensures)
    (wishes_grow old.plan old.state c.args.entry c.args.wishing.low c.args.wishing.high low high c.requires down
    (subst (λ (k : ℕ). low ≤ k) here under) up (subst (λ (k : ℕ). k < high) here over) most)
