use Rattle.std.proofs.Common.{◌≡◌, ◌*◌, ◌<◌, length, get_or, arith, ap, sym, ◌∙◌, w64, to_z, of_z, length-take, subst, refl, ◌+◌}
use Rattle.std.proofs.lemmas.Int.{to_z-of_z}
use Rattle.std.proofs.lemmas.List.{get_or-take}
use Rattle.array_tree.specs.Trees.{sequence_of, sequences_of}
use Rattle.array_tree.specs.declared.tree.Blocks.{out-Blocks}
use Rattle.array_tree.proofs.Views.{sequences_of-blocks}
use Rattle.array_meaning.specs.Work.{span}
use Rattle.array_meaning.specs.Plans.{sites_in}
use Rattle.array_meaning.specs.Limits.{count_of}
use Rattle.site_counts.proofs.Trees.{count_of-sequences}
use Rattle.site_counts.specs.Capped.{capped}
use Rattle.step_eval.specs.Nests.{sites_before}
use Rattle.step_eval.proofs.PieceLemmas.{none_before, capped_before}
use Rattle.step_eval.proofs.jobs.sites_before.Goals as goal

pub slice_bounds-body-items-end : goal.slice_bounds-body-items-end
slice_bounds-body-items-end c =
    let items = (out-Blocks c.args.phases.now).blocks.items in
    let count : count_of (sequences_of c.args.phases.now) ≡ length items
    = ap count_of (sequences_of-blocks c.args.phases.now) ∙ count_of-sequences items in
    let whole = ap length c.deref.ensures.value in
    let size = length-take c.from.result c.deref.result.now in
    omega (arith, count, whole, size)

pub loop-body-init : goal.loop-body-init
loop-body-init c = rw none_before (omega arith)

pub loop-body-preserved : goal.loop-body-preserved
loop-body-preserved c =
    let i = c.loop-body.body-index in
    let d = c.body-item.result in
    let items = (out-Blocks c.args.phases.now).blocks.items in
    let turns = span (to_z w64 (of_z w64 c.args.low)) (to_z w64 (of_z w64 c.args.high)) in
    let size = length-take c.from.result c.deref.result.now in
    let whole = ap length c.deref.ensures.value in
    let below : i < length items = omega (arith, size, whole) in
    let front : i < c.from.result = omega (arith, size) in
    let here : d ≡ get_or items i d = c.body-item.is ∙ get_or-take c.from.result c.deref.result.now i d front ∙ ap (λ bs. get_or bs i d) c.deref.ensures.value in
    let view = sequences_of-blocks c.args.phases.now in
    subst (λ s. c.saturating_add-sites.result ≡ capped (turns * sites_before s (i + 1))) (sym view)
    (capped_before turns items i d c.loop-body.sites c.sites_in_turns.result c.saturating_add-sites.result below
    (subst (λ s. c.loop-body.sites ≡ capped (turns * sites_before s i)) view c.loop-body.invariant)
    (c.sites_in_turns.ensures ∙ ap (λ b. capped (turns * sites_in (sequence_of b))) here)
    c.saturating_add-sites.ensures)

pub returns : goal.returns
returns c =
    let items = (out-Blocks c.args.phases.now).blocks.items in
    let count : count_of (sequences_of c.args.phases.now) ≡ length items
    = ap count_of (sequences_of-blocks c.args.phases.now) ∙ count_of-sequences items in
    let whole = ap length c.deref.ensures.value in
    let size = length-take c.from.result c.deref.result.now in
    let all : c.loop-body.body-index ≡ c.args.phase = omega (arith, count, whole, size) in
    c.loop-body.invariant
    ∙ ap (λ i. capped (span (to_z w64 (of_z w64 c.args.low)) (to_z w64 (of_z w64 c.args.high)) * sites_before (sequences_of c.args.phases.now) i)) all
    ∙ rw (to_z-of_z w64 c.args.low c.ranges.low, to_z-of_z w64 c.args.high c.ranges.high) refl
