use Rattle.std.proofs.Common.{rules, ◌≡◌, map, ap, ◌∙◌, subst}
use Rattle.std.specs.Prelude.{IfOk}
use Rattle.std.proofs.lemmas.Result.{IfOk-weaker}
use Rattle.array_jobs.specs.Jobs.{job_of}
use Rattle.array_tree.specs.Trees.{statement_of}
use Rattle.array_jobs.specs.Works.{work_of}
use Rattle.step_eval.specs.Nests.{NestedParts, nested_of, piece_trees, jobs_in, IsFitNest}
use Rattle.step_eval.proofs.PieceLemmas.{fit_other_store}
use Rattle.step_eval.proofs.PhaseLemmas.{jobs_are_groups}
use Rattle.step_eval.proofs.jobs.jobs_of.Goals as goal

pub jobs_of_works-requires : goal.jobs_of_works-requires
jobs_of_works-requires c =
    let nested = c.args.nested.now in
    let fit : IsFitNest (nested_of nested) = subst (λ (n : NestedParts). IsFitNest (nested_of n)) c.nested.view_is c.nested.invariant in
    let works : map work_of c.deref.result.now ≡ piece_trees (statement_of nested.construct) c.args.phase
    = ap (map work_of) c.deref.ensures.value ∙ c.in_ok-works.ensures
    ∙ ap (λ (n : NestedParts). piece_trees (statement_of n.construct) c.args.phase) c.nested.view_is in
    rw (works, c.first_site.ensures) (fit_other_store (nested_of nested) fit c.args.phase c.requires.phase c.args.store.now c.requires.cells)

pub returns-clause-group : goal.returns-clause-group
returns-clause-group c =
    let nested = nested_of c.args.nested.now in
    let fit : IsFitNest nested = subst (λ (n : NestedParts). IsFitNest (nested_of n)) c.nested.view_is c.nested.invariant in
    let jobs : IfOk c.jobs_of_works.result (λ js. map job_of js.items ≡ jobs_in nested c.args.phase c.args.store.now) = search rules in
    IfOk-weaker c.jobs_of_works.result _ _ (λ js e. rw e (jobs_are_groups nested fit c.args.phase c.args.store.now c.requires.phase)) jobs
