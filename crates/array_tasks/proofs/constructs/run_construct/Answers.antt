use Rattle.std.proofs.Common.{◌≡◌, refl, ap, sym, subst, ◌∙◌, arith}
use Rattle.std.proofs.lemmas.Result.{IfOk-weaker}
use Rattle.array_tree.specs.Trees.{statement_of}
use Rattle.array_eval.specs.Traces.{fresh}
use Rattle.step_eval.specs.Nests.{NestedParts, nested_of, phases_of, IsFitNest}
use Rattle.step_eval.specs.Inside.Computed.{HasReached}
use Rattle.step_eval.proofs.ComputeLemmas.{reached_none, reached_all, small_store}
use Rattle.array_tasks.proofs.constructs.run_construct.Goals as goal

pub phases-init : goal.phases-init
phases-init g c =
    let nested = c.args.nested.now in
    record {
      reached = subst (λ s. HasReached (nested_of nested) 0 s) (sym (c.in_ok-store.ensures ∙ ap (λ (n : NestedParts). fresh n.store) c.nested.view_is)) (reached_none (nested_of nested));
      levels = refl;
    }

pub written-requires : goal.written-requires
written-requires g c =
    let fit : IsFitNest (nested_of c.args.nested.now) = subst (λ (n : NestedParts). IsFitNest (nested_of n)) c.nested.view_is c.nested.invariant in
    let small = small_store (nested_of c.args.nested.now) fit in
    let same = c.phases.invariant.reached.same in
    omega (arith, small, same)

pub returns-clause-written : goal.returns-clause-written
returns-clause-written g c =
    let nested = c.args.nested.now in
    let fit : IsFitNest (nested_of nested) = subst (λ (n : NestedParts). IsFitNest (nested_of n)) c.nested.view_is c.nested.invariant in
    let end : c.phases.phase ≡ phases_of (statement_of nested.construct) = omega (arith, c.phases-phase-end.ensures.same) in
    IfOk-weaker c.written.result _ _ (λ overlay e. e ∙ reached_all (nested_of nested) fit c.phases.phase c.phases.store end c.phases.invariant.reached) c.written.ensures
