use Rattle.std.proofs.Common.{◌≡◌, ◌∙◌, ◌+◌, ◌-◌, ◌++◌, ◌∷◌, [], List, length, map, slice_get, Some, ap, sym, subst, arith}
use Rattle.std.proofs.lemmas.List.{map-append, take_all}
use Rattle.transfer_table.specs.Plan.{Plan}
use Rattle.disjoint_check.specs.Shapes.{Shape}
use Rattle.shared_sites.specs.ClaimRows.{shape_of}
use Rattle.shared_sites.specs.declared.claims.SiteRows.{SiteRows}
use Rattle.shared_sites.proofs.ClaimRows.{ArePlaced, none_placed, placed_next, placed_short, shapes_next}
use Rattle.shared_sites.proofs.claims.site_rows.Goals as goal

pub loop-index-init : goal.loop-index-init
loop-index-init c =
    let sites = c.in_ok-sites.ensures.items in
    let counts = c.new-counts.ensures.items in (
      subst (λ (l : List SiteRows). ArePlaced l c.new-counts.result.items) (sym sites) (subst (ArePlaced []) (sym counts) none_placed),
      omega (arith, ap length counts),
      ap (map shape_of) sites,
    )

pub loop-index-preserved : goal.loop-index-preserved
loop-index-preserved c =
    let was = c.loop-index.invariant in
    let shape : Shape = (c.shape-members.result.0, c.shape-members.result.1) in
    let back : (c.loop-index.index + 1) - 1 ≡ c.loop-index.index = omega arith in
    let told : slice_get c.args.accepted.now.shapes c.loop-index.index ≡ Some shape = ap (slice_get c.args.accepted.now.shapes) (sym back) ∙ c.shape-members.ensures.same in
    let new_site = c.in_ok-push.ensures.items in
    let placed = subst (λ (l : List SiteRows). ArePlaced l c.add_rows.new.counts.items) (sym new_site)
    (placed_next c.loop-index.sites.items c.loop-index.counts.items c.add_rows.new.counts.items _ was.0 (let a = c.len-first.ensures in let ok = c.loop-index.counts.ok in omega (arith, a, ok)) c.in_ok-add_rows.ensures) in (
      placed,
      placed_short c.push.new.self.items c.add_rows.new.counts.items placed,
      ap (map shape_of) new_site ∙ map-append shape_of c.loop-index.sites.items _ ∙ ap (λ l. l ++ shape ∷ []) was.2 ∙ sym (shapes_next c.args.accepted.now.shapes c.loop-index.index shape told),
    )

pub returns-clause-sites : goal.returns-clause-sites
returns-clause-sites c =
    let shapes = c.args.accepted.now.shapes in
    let count = c.plan-plan.ensures.kept.sites in
    let plan = ap (λ (p : Plan). length p.parents) c.plan-plan.ensures.same in
    let last = c.sites-index-end.ensures.same in
    let over = c.loop-index-test.false in
    c.loop-index.invariant.2 ∙ take_all c.loop-index.index shapes (omega (arith, count, plan, last, over))
