use Rattle.std.proofs.Common.{sym, subst}
use Rattle.array_tree.specs.Trees.{declarations_of}
use Rattle.array_meaning.specs.Stores.{arrays_of}
use Rattle.step_eval.specs.Inside.Frames.{works_of, Ran}
use Rattle.step_eval.specs.Inside.Parts.{IsSound}
use Rattle.step_eval.specs.declared.stage.Stage.{Stage}
use Rattle.step_eval.specs.Machines.{Progress, HasGoneOn}
use Rattle.step_eval.proofs.GoLemmas.{gone_through, sound_through}
use Rattle.step_eval.proofs.machine.StepMachine.run_through.Goals as goal

-- The work that was run, for the arrays of the job.
ran : (c : goal.After-run_loop_of) → Ran (arrays_of (declarations_of c.self.inside.job.arrays)) c.run_loop_of.result (works_of c.self.inside.frames c.self.inside.job.vars) c.self.inside.store
    (works_of c.run_loop_of.new.frames c.self.inside.job.vars) c.run_loop_of.new.store
ran c = subst (λ arrays. Ran arrays c.run_loop_of.result (works_of c.self.inside.frames c.self.inside.job.vars) c.self.inside.store
    (works_of c.run_loop_of.new.frames c.self.inside.job.vars) c.run_loop_of.new.store) c.self.invariant.1 c.run_loop_of.ensures.ran

pub invariant_of-self : goal.invariant_of-self
invariant_of-self c =
    let inside = c.self.inside in
    let after = c.run_loop_of.new.frames in
    let store = c.run_loop_of.new.store in
    let sound = subst (λ stage. IsSound stage inside.job inside.frames inside.store inside.room inside.next) c.in-Going.is c.self.invariant.0 in (
      subst (λ stage. IsSound stage inside.job after store inside.room inside.next) (sym c.in-Going.is)
          (sound_through inside.job inside.frames after inside.store store inside.room inside.next c.run_loop_of.result sound (ran c) c.run_loop_of.ensures.stacked),
      c.self.invariant.1,
    )

pub returns-in-Going : goal.returns-in-Going
returns-in-Going c =
    let inside = c.self.inside in
    let after = c.run_loop_of.new.frames in
    let store = c.run_loop_of.new.store in
    let at : Stage → Progress = λ stage. record { job = inside.job; rest = works_of inside.frames inside.job.vars; store = inside.store; next = inside.next; stage = stage } in
    let then : Stage → Progress = λ stage. record { job = inside.job; rest = works_of after inside.job.vars; store = store; next = inside.next; stage = stage } in
    let gone = gone_through inside.job inside.frames after inside.store store inside.next c.run_loop_of.result (ran c) in
    subst (λ m. HasGoneOn c.run_loop_of.result m (then inside.stage)) c.self.view_is
    (subst (λ stage. HasGoneOn c.run_loop_of.result (at stage) (then stage)) (sym c.in-Going.is) gone)
