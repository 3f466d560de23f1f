use Rattle.std.proofs.Common.{◌≡◌, ◌+◌, sym, ap, subst, ◌∙◌}
use Rattle.array_eval.specs.Traces.{noted_all}
use Rattle.step_eval.specs.declared.stage.Stage.TheVariants.{Going, Awaiting}
use Rattle.step_eval.specs.Machines.{Progress, AreAwaited, HasMoved, left_of}
use Rattle.step_eval.specs.Inside.Frames.{works_of}
use Rattle.step_eval.specs.Inside.Parts.{IsSound}
use Rattle.step_eval.proofs.MachineLemmas.{IsSupplied, supply_done}
use Rattle.step_eval.proofs.machine.StepMachine.supply.Goals as goal

awaiting : (c : goal.After-self-2-1) → c.self.inside.stage ≡ Awaiting
awaiting c = ap (λ m. m.stage) c.self.view_is ∙ c.requires.awaits

-- The machine has taken its supply.
taken : (c : goal.After-self-2-1) → IsSupplied c.self.inside.job c.self.inside.frames c.pass.new.self c.self.inside.store
    (noted_all c.args.written.now.pairs c.self.inside.store) c.self.inside.room c.self.inside.next (c.self.inside.next + c.sites_in_construct-sites.result)
taken c =
    let inside = c.self.inside in
    let sound = subst (λ stage. IsSound stage inside.job inside.frames inside.store inside.room inside.next) (awaiting c) c.self.invariant.0 in
    let awaited = subst (λ m. AreAwaited m c.args.written.now.pairs) (sym c.self.view_is) c.requires.written in
    supply_done inside.job inside.frames c.pass.new.self inside.store inside.room inside.next c.sites_in_construct-sites.result c.construct.result
    c.args.written.now.pairs sound c.construct.ensures c.sites_in_construct-sites.ensures c.pass.ensures.passed (c.pass.ensures.stacked sound.stacked) awaited

pub invariant_of-self : goal.invariant_of-self
invariant_of-self c = (rw c.merge.ensures.noted (taken c).sound, c.self.invariant.1)

pub returns-clause-ok : goal.returns-clause-ok
returns-clause-ok c =
    let inside = c.self.inside in
    let after : Progress = record {
      job = inside.job;
      rest = works_of c.pass.new.self inside.job.vars;
      store = c.merge.new.self;
      next = inside.next + c.sites_in_construct-sites.result;
      stage = Going;
    } in
    subst (λ m. HasMoved m.rest m after) c.self.view_is (rw (c.merge.ensures.noted, awaiting c) (taken c).moved)

pub returns-clause-left : goal.returns-clause-left
returns-clause-left c =
    let inside = c.self.inside in
    (taken c).left ∙ sym (ap (λ stage. left_of stage (works_of inside.frames inside.job.vars)) (awaiting c)) ∙ ap (λ m. left_of m.stage m.rest) c.self.view_is
