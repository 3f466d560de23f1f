use Rattle.std.proofs.Common.{◌+◌, ap, arith}
use Rattle.array_tree.specs.Trees.{statement_of}
use Rattle.step_eval.specs.Nests.{NestedParts, earlier_sites}
use Rattle.step_eval.proofs.PieceLemmas.{first_site_has_room}
use Rattle.step_eval.proofs.jobs.first_site.Goals as goal

pub overflow_add-result : goal.overflow_add-result
overflow_add-result c =
    let small = first_site_has_room _ _ c.nested.view_is c.nested.invariant c.args.phase c.requires in
    omega (arith, small)

pub overflow_cast-result : goal.overflow_cast-result
overflow_cast-result c =
    let small = first_site_has_room _ _ c.nested.view_is c.nested.invariant c.args.phase c.requires in
    omega (arith, small)

pub overflow_add-result-2 : goal.overflow_add-result-2
overflow_add-result-2 c =
    let small = first_site_has_room _ _ c.nested.view_is c.nested.invariant c.args.phase c.requires in
    omega (arith, small)

pub returns : goal.returns
returns c =
    let small = first_site_has_room _ _ c.nested.view_is c.nested.invariant c.args.phase c.requires in
    let view = ap (λ (n : NestedParts). n.site + 1 + earlier_sites (statement_of n.construct) c.args.phase) c.nested.view_is in
    omega (arith, small, view)
