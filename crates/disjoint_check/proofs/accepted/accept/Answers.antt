use Rattle.std.proofs.Common.{◌≡◌, [], length, ap, sym, ◌∙◌}
use Rattle.array_tree.specs.Trees.{program_of}
use Rattle.array_meaning.specs.Plans.{plan_of}
use Rattle.transfer_table.specs.Plan.{plan_fault_of}
use Rattle.disjoint_check.specs.Inside.Unrolled.{parents_in, shapes_in, with_sequence}
use Rattle.disjoint_check.proofs.Parents.{plan_is}
use Rattle.disjoint_check.proofs.ShapeLaws.{shapes_are}
use Rattle.disjoint_check.proofs.PlanLaws.{plan_right, rows_length, uncapped}
use Rattle.disjoint_check.proofs.accepted.accept.Goals as goal

pub plan-requires : goal.plan-requires
plan-requires c =
    let program = program_of c.args.program.now in
    let rows : c.deref.result.now ≡ with_sequence program.body 0 [] = c.deref.ensures.value ∙ c.in_ok-sites.ensures in
    let parents : c.deref-2.result.now ≡ plan_of program =
    c.deref-2.ensures.value ∙ c.in_ok-parents.ensures ∙ ap parents_in rows ∙ plan_is program c.requires.accepted.accepted.sites in
    ap (plan_fault_of c.args.harts) parents ∙ plan_right program c.args.harts c.requires.some_hart c.requires.few_harts c.requires.accepted.accepted.sites c.requires.accepted.entries

pub invariant_of-result : goal.invariant_of-result
invariant_of-result c =
    let program = program_of c.args.program.now in
    let rows : c.deref.result.now ≡ with_sequence program.body 0 [] = c.deref.ensures.value ∙ c.in_ok-sites.ensures in
    let listed : c.deref-2.result.now ≡ parents_in c.in_ok-sites.sites.items =
    c.deref-2.ensures.value ∙ c.in_ok-parents.ensures ∙ ap parents_in c.deref.ensures.value in
    let made : c.in_ok-plan.plan.parents ≡ c.deref-2.result.now = ap (λ p. p.parents) c.in_ok-plan.ensures.plan in
    record {
      accepted = c.requires.accepted.accepted;
      parents = made ∙ listed ∙ ap parents_in c.in_ok-sites.ensures ∙ plan_is program c.requires.accepted.accepted.sites;
      pieces = c.pieces_in_block.ensures ∙ uncapped _ c.requires.accepted.accepted.pieces;
      shapes = ap shapes_in c.in_ok-sites.ensures ∙ shapes_are program c.requires.accepted.accepted.ranges;
      sites = rows_length c.in_ok-sites.sites.items ∙ ap length (sym (made ∙ listed));
    }
