use Rattle.std.proofs.Common.{rules, subst, to_z, of_z, w64}
use mir.Val.{SFits}
use Rattle.std.proofs.lemmas.Int.{to_z-of_z}
use Rattle.step_eval.specs.declared.frames.Frame.TheVariants.{Turns}
use Rattle.step_eval.specs.declared.reported.Reported.TheVariants.{Nothing}
use Rattle.step_eval.specs.Inside.Frames.{works_of, works_with, HaveReported}
use Rattle.step_eval.proofs.FrameLemmas.{turned_reported}
use Rattle.step_eval.proofs.frames.Frames.go_on_in.Goals as goal

pub returns-in_ok-go_on_in_loop-in-Turns-clause-reported : goal.returns-in_ok-go_on_in_loop-in-Turns-clause-reported
returns-in_ok-go_on_in_loop-in-Turns-clause-reported c =
    let arrays = c.args.layout.now in
    let around = c.args.around.now in
    let store = c.args.store.now in
    let before = c.args.self.now in
    let number = c.args.next.now in
    let after = works_of c.go_on_in_loop.new.self around in
    let body = c.in-Turns.body in
    let turn = c.in-Turns.turn in
    let high = c.in-Turns.high in
    let turn_fits : SFits w64 turn = search rules in
    let high_fits : SFits w64 high = search rules in
    rw c.in-Turns.is
    (subst (λ x. HaveReported arrays Nothing (works_with (Turns body turn x) before around) store number after store number) (to_z-of_z w64 high high_fits)
    (subst (λ x. HaveReported arrays Nothing (works_with (Turns body x (to_z w64 (of_z w64 high))) before around) store number after store number) (to_z-of_z w64 turn turn_fits)
    (turned_reported arrays store number before c.go_on_in_loop.new.self body (to_z w64 (of_z w64 turn)) (to_z w64 (of_z w64 high)) around c.in_ok-go_on_in_loop-in-Turns.ensures.moved)))
