use Rattle.std.proofs.Common.{◌≡◌, ℕ, ◌*◌, ◌<◌, List, length, map, sym, ap, ◌∙◌, subst, arith}
use Rattle.std.proofs.lemmas.Nat.{div_below}
use Rattle.array_tree.specs.Trees.{statement_of}
use Rattle.step_eval.proofs.ShapeLemmas.{few_pieces}
use Rattle.pipe_sched.specs.Slots.{phases_in, members_in}
use Rattle.pipe_sched.specs.declared.slot.Slot.{Slot}
use Rattle.pipe_sched.specs.Inside.{mark_of, AreNext}
use Rattle.pipe_sched.proofs.Told.{due_is_in_model, none_is_due}
use Rattle.pipe_sched.proofs.state.PipeState.due.Goals as goal

pub overflow_cast-result : goal.overflow_cast-result
overflow_cast-result c =
    let p = c.from-phases.result in
    let m = members_in c.self.inside.nested in
    let n : p ≡ phases_in c.self.inside.nested = c.from-phases.ensures ∙ c.phases.ensures.same in
    let size : length c.deref.result.now ≡ m * p = ap length c.deref.ensures.value ∙ c.self.invariant.kept.count ∙ ap (λ q. m * q) (sym n) in
    let there = c.in-Some.ensures.there.0 in
    let some : 0 < p = (let least = c.phases.ensures.some in let from = c.from-phases.ensures in omega (arith, least, from)) in
    let below = div_below c.in-Some.place p m some (omega (arith, size, there)) in
    let few = few_pieces (statement_of c.self.inside.nested.construct) c.self.invariant.kept.fit.limits in
    omega (arith, below, few)

pub returns-in-Some-clause-some : goal.returns-in-Some-clause-some
returns-in-Some-clause-some c =
    let some : 0 < c.from-phases.result = (let least = c.phases.ensures.some in let from = c.from-phases.ensures in omega (arith, least, from)) in
    due_is_in_model c.self.inside.nested c.self.inside.slots.items c.deref.result.now c.args.self.now c.from-phases.result c.in-Some.place c.self.view_is c.self.invariant.kept
    c.deref.ensures.value (c.from-phases.ensures ∙ c.phases.ensures.same) some c.in-Some.ensures.there.0 c.in-Some.ensures.there.1 c.in-Some.ensures.first

pub returns-in-None-clause-none : goal.returns-in-None-clause-none
returns-in-None-clause-none c =
    none_is_due c.self.inside.nested c.self.inside.slots.items c.deref.result.now c.args.self.now c.from-phases.result c.self.view_is
    c.deref.ensures.value (c.from-phases.ensures ∙ c.phases.ensures.same) c.in-None.ensures.none

pub first_ready-requires-clause-places : goal.first_ready-requires-clause-places
first_ready-requires-clause-places c =
    let n : c.from-phases.result ≡ phases_in c.self.inside.nested = c.from-phases.ensures ∙ c.phases.ensures.same in
    ap length c.deref.ensures.value ∙ c.self.invariant.kept.count ∙ ap (λ m. m * phases_in c.self.inside.nested) (sym c.self.invariant.members)
    ∙ ap (λ q. length c.self.inside.next.items * q) (sym n) ∙ ap (λ (l : List ℕ). length l * c.from-phases.result) (sym c.deref-2.ensures.value)

pub first_ready-requires-clause-next : goal.first_ready-requires-clause-next
first_ready-requires-clause-next c =
    let n : c.from-phases.result ≡ phases_in c.self.inside.nested = c.from-phases.ensures ∙ c.phases.ensures.same in
    subst (λ (l : List Slot). AreNext c.from-phases.result (map mark_of l) c.deref-2.result.now) (sym c.deref.ensures.value)
    (subst (λ (l : List ℕ). AreNext c.from-phases.result (map mark_of c.self.inside.slots.items) l) (sym c.deref-2.ensures.value)
    (subst (λ q. AreNext q (map mark_of c.self.inside.slots.items) c.self.inside.next.items) (sym n) c.self.invariant.begun))
