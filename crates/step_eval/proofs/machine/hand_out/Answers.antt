use Rattle.std.proofs.Common.{ap, ◌∙◌}
use Rattle.array_tree.specs.Trees.{statement_of, declarations_of}
use Rattle.step_eval.specs.Inside.Frames.{frames_in, works_of, vars_in}
use Rattle.step_eval.specs.Inside.Parts.{while_going}
use Rattle.step_eval.proofs.HandLemmas.{fit_handed_out, is_handed_out}
use Rattle.step_eval.proofs.machine.hand_out.Goals as goal

pub invariant_of-result : goal.invariant_of-result
invariant_of-result c =
    let job = c.args.job.now in
    let fit = fit_handed_out job c.args.frames.now c.args.store.now c.args.next (statement_of c.args.construct.now) c.requires.right c.requires.construct in
    let arrays = ap (λ j. declarations_of j.arrays) c.job.view_is in
    let vars = c.in_ok-vars_around.ensures ∙ ap (λ j. vars_in c.args.frames.now j.vars) c.job.view_is in
    rw (vars, c.in_ok-to_store.ensures.values, arrays) fit

pub returns-clause-handed_out : goal.returns-clause-handed_out
returns-clause-handed_out c =
    let job = c.args.job.now in
    let frames = c.args.frames.now in
    let machine = while_going job (works_of frames job.vars) c.args.store.now c.args.next in
    let is = is_handed_out machine (frames_in frames) (vars_in frames job.vars) (statement_of c.args.construct.now) c.requires.construct in
    let arrays = ap (λ j. declarations_of j.arrays) c.job.view_is in
    let vars = c.in_ok-vars_around.ensures ∙ ap (λ j. vars_in c.args.frames.now j.vars) c.job.view_is in
    rw (vars, c.in_ok-to_store.ensures.values, arrays) is
