use Rattle.std.proofs.Common.{◌≡◌, sym, ap, subst, ◌∙◌}
use Rattle.std.proofs.lemmas.Bool.{false≢true}
use Rattle.step_eval.specs.Machines.{is_awaiting}
use Rattle.step_eval.specs.Inside.Frames.{works_of}
use Rattle.step_eval.specs.Inside.Parts.{IsSound, while_going}
use Rattle.step_eval.proofs.MachineLemmas.{advances, steps, sound_advanced}
use Rattle.step_eval.proofs.machine.StepMachineMachine.step.Goals as goal

pub invariant_of-self : goal.invariant_of-self
invariant_of-self c =
    let inside = c.self.inside in
    let sound = subst (λ stage. IsSound stage inside.job inside.frames inside.store inside.room inside.next) c.in-Going.is c.self.invariant.0 in (
      rw c.stage_after-self-inside.ensures
          (sound_advanced inside.job inside.frames c.advance.new.frames inside.store c.advance.new.store inside.room inside.next c.advance.new.next c.in-Ok.step sound
          c.in-Ok.ensures.advanced c.in-Ok.ensures.stacked),
      c.self.invariant.1,
    )

pub returns-in-Ok-clause-work : goal.returns-in-Ok-clause-work
returns-in-Ok-clause-work c =
    let inside = c.self.inside in
    let works = works_of inside.frames inside.job.vars in
    let seen : c.args.self.now ≡ while_going inside.job works inside.store inside.next
    = sym c.self.view_is ∙ ap (λ stage. record { job = inside.job; rest = works; store = inside.store; next = inside.next; stage = stage }) c.in-Going.is in
    rw (seen, c.stage_after-self-inside.ensures)
    (steps inside.job works (works_of c.advance.new.frames inside.job.vars) inside.store c.advance.new.store inside.next c.advance.new.next c.in-Ok.step c.in-Ok.ensures.advanced)

pub returns-in-Ok-clause-exact : goal.returns-in-Ok-clause-exact
returns-in-Ok-clause-exact c =
    let inside = c.self.inside in
    let works = works_of inside.frames inside.job.vars in
    let seen : c.args.self.now ≡ while_going inside.job works inside.store inside.next
    = sym c.self.view_is ∙ ap (λ stage. record { job = inside.job; rest = works; store = inside.store; next = inside.next; stage = stage }) c.in-Going.is in
    rw (seen, c.stage_after-self-inside.ensures)
    (advances inside.job works (works_of c.advance.new.frames inside.job.vars) inside.store c.advance.new.store inside.next c.advance.new.next c.in-Ok.step c.in-Ok.ensures.advanced)

pub returns-in-Awaiting : goal.returns-in-Awaiting
returns-in-Awaiting c =
    absurd (false≢true (sym c.requires ∙ ap (λ m. is_awaiting m.stage) (sym c.self.view_is) ∙ ap is_awaiting c.in-Awaiting.is))
