use Rattle.std.proofs.Common.{◌≡◌, length, map, sym, ap, ◌∙◌, subst, arith}
use Rattle.std.proofs.lemmas.List.{length-map}
use Rattle.array_tree.specs.Trees.{statement_of}
use Rattle.array_jobs.specs.Works.{work_of}
use Rattle.step_eval.specs.Nests.{NestedParts, nested_of, piece_trees, IsFitNest}
use Rattle.step_eval.specs.Shapes.{members_of}
use Rattle.step_eval.proofs.PieceLemmas.{fit_other_store}
use Rattle.step_eval.proofs.PhaseLemmas.{count_pieces}
use Rattle.step_eval.proofs.jobs.job_at.Goals as goal

pub job_of_place-requires-clause-place : goal.job_of_place-requires-clause-place
job_of_place-requires-clause-place c =
    let construct = statement_of c.args.nested.now.construct in
    let works : map work_of c.deref.result.now ≡ piece_trees construct c.args.phase
    = ap (map work_of) c.deref.ensures.value ∙ c.in_ok-works.ensures
    ∙ ap (λ (n : NestedParts). piece_trees (statement_of n.construct) c.args.phase) c.nested.view_is in
    let size : length c.deref.result.now ≡ members_of construct
    = sym (length-map c.deref.result.now work_of) ∙ ap length works ∙ count_pieces construct c.args.phase c.requires.phase in
    let place = c.requires.place in
    omega (arith, size, place)

pub job_of_place-requires-clause-fit : goal.job_of_place-requires-clause-fit
job_of_place-requires-clause-fit c =
    let nested = c.args.nested.now in
    let fit : IsFitNest (nested_of nested) = subst (λ (n : NestedParts). IsFitNest (nested_of n)) c.nested.view_is c.nested.invariant in
    let works : map work_of c.deref.result.now ≡ piece_trees (statement_of nested.construct) c.args.phase
    = ap (map work_of) c.deref.ensures.value ∙ c.in_ok-works.ensures
    ∙ ap (λ (n : NestedParts). piece_trees (statement_of n.construct) c.args.phase) c.nested.view_is in
    rw (works, c.first_site.ensures) (fit_other_store (nested_of nested) fit c.args.phase c.requires.phase c.args.store.now c.requires.cells)
