use Rattle.std.proofs.Common.{◌∷◌, ◌+◌, drop, map, ap, sym, subst, ◌∙◌}
use Rattle.array_tree.specs.Trees.{sequence_of, sequences, sequences_of}
use Rattle.array_meaning.specs.Work.{sequence_work}
use Rattle.array_meaning.specs.Members.{team_works}
use Rattle.array_meaning.specs.Sites.{phase_rounds}
use Rattle.array_eval.specs.Views.{vars_of}
use Rattle.pipe_walk.specs.Inside.Tables.{IsSettled}
use Rattle.pipe_walk.proofs.PhaseLemmas.{IsThrough, none_through, one_through, all_through, phase_next, phases_end}
use Rattle.array_tree.proofs.Views.{sequences_of-blocks}
use Rattle.pipe_walk.proofs.crossing.walk_phases.Goals as goal

pub loop-phase-init : goal.loop-phase-init
loop-phase-init c =
    let arrays = c.args.layout.now in
    let all = phase_rounds (sequences_of c.args.phases.now) c.args.turns.var.now (c.args.turns.low) (c.args.turns.high) c.args.members (vars_of c.args.scope.now) in
    let low = c.args.turns.low in
    let high = c.args.turns.high in
    let blocks = sequences_of-blocks c.args.phases.now ∙ ap (λ bs. sequences (map sequence_of bs)) (sym c.deref-phase-items.ensures.value) in
    subst (λ phases. IsThrough arrays all (phase_rounds phases c.args.turns.var.now low high c.args.members (vars_of c.args.scope.now)) c.clear.new.self) blocks
    (subst (IsThrough arrays all all) (sym c.clear.ensures) (none_through arrays all c.args.table.now c.requires))

pub loop-phase-preserved : goal.loop-phase-preserved
loop-phase-preserved c =
    let arrays = c.args.layout.now in
    let vars = vars_of c.args.scope.now in
    let var = c.args.turns.var.now in
    let low = c.args.turns.low in
    let high = c.args.turns.high in
    let members = c.args.members in
    let items = c.deref-phase-items.result.now in
    let i = c.loop-phase.phase-index in
    let all = phase_rounds (sequences_of c.args.phases.now) var low high members vars in
    let round = team_works var low high members (sequence_work (sequence_of c.phase-item.result)) vars in
    let more = phase_rounds (sequences (map sequence_of (drop (i + 1) items))) var low high members vars in
    let left = phase_next items i c.phase-item.result var low high members vars c.loop-phase-test.true
    ∙ ap (λ b. team_works var low high members (sequence_work (sequence_of b)) vars ∷ more) (sym c.phase-item.is) in
    one_through arrays all round more c.loop-phase.table c.settle.new.self
    (subst (λ rounds. IsThrough arrays all rounds c.loop-phase.table) left c.loop-phase.invariant)
    (subst (λ t. IsSettled t c.settle.new.self) c.mark_members.ensures c.settle.ensures)

pub returns-clause-crossed : goal.returns-clause-crossed
returns-clause-crossed c = λ cell small.
    let arrays = c.args.layout.now in
    let vars = vars_of c.args.scope.now in
    let var = c.args.turns.var.now in
    let phases = sequences_of c.args.phases.now in
    let low = c.args.turns.low in
    let high = c.args.turns.high in
    let members = c.args.members in
    let items = c.deref-phase-items.result.now in
    let all = phase_rounds phases var low high members vars in
    let through = subst (λ rounds. IsThrough arrays all rounds c.loop-phase.table)
    (phases_end items c.loop-phase.phase-index var low high members vars c.loop-phase-test.false) c.loop-phase.invariant in
    all_through arrays all c.loop-phase.table cell through small
