use Rattle.std.proofs.Common.{◌≡◌, ◌*◌, length, sym, ap, ◌∙◌, arith}
use Rattle.std.proofs.lemmas.Bool.{false≢true}
use Rattle.std.proofs.lemmas.Result.{IfOk-weaker}
use Rattle.step_eval.specs.Nests.{nested_of}
use Rattle.step_eval.proofs.ComputeLemmas.{small_store}
use Rattle.pipe_sched.specs.Slots.{phases_in}
use Rattle.phase_order.specs.Pipes.{concat}
use Rattle.pipe_sched.specs.Inside.{columns}
use Rattle.pipe_sched.proofs.Whole.{merged_size, all_in_model}
use Rattle.pipe_sched.proofs.state.PipeState.take_all.Goals as goal

pub merge_phases-requires-clause-there : goal.merge_phases-requires-clause-there
merge_phases-requires-clause-there c =
    let size : length c.deref.result.now ≡ c.from-members.result * c.from-phases.result
    = ap length c.deref.ensures.value ∙ c.self.invariant.kept.count
    ∙ ap (λ m. m * phases_in c.self.inside.nested) (sym (c.from-members.ensures ∙ c.members.ensures.same))
    ∙ ap (λ p. c.from-members.result * p) (sym (c.from-phases.ensures ∙ c.phases.ensures.same)) in
    omega (arith, size)

pub written-requires : goal.written-requires
written-requires c =
    let small = small_store (nested_of c.self.inside.nested) c.self.invariant.kept.fit in
    let size = merged_size (concat (concat (columns c.from-phases.result c.deref.result.now c.from-members.result c.from-phases.result))) c.self.inside.nested.store c.in_ok-store.store c.merge_phases.new.store c.in_ok-store.ensures c.merge_phases.ensures in
    omega (arith, small, size)

pub returns-clause-written : goal.returns-clause-written
returns-clause-written c =
    let told = all_in_model c.self.inside.nested c.self.inside.slots.items c.args.self c.deref.result.now c.from-members.result c.from-phases.result
    c.in_ok-store.store c.merge_phases.new.store c.self.view_is c.self.invariant.kept c.requires
    (λ failed. false≢true (sym c.if-has_failed.false ∙ c.has_failed.ensures.1 failed))
    c.deref.ensures.value (c.from-members.ensures ∙ c.members.ensures.same) (c.from-phases.ensures ∙ c.phases.ensures.same) c.in_ok-store.ensures c.merge_phases.ensures in
    IfOk-weaker c.written.result _ _ (λ overlay e clear. e ∙ told clear) c.written.ensures
