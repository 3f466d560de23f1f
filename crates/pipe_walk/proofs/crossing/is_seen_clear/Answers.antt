use Rattle.std.proofs.Common.{◌≡◌, ◌<◌, length, None, arith, ap, ◌∙◌}
use Rattle.std.proofs.lemmas.Bool.{OnTrue_at, OnTrue_from}
use Rattle.std.proofs.lemmas.Grind.{common_steps}
use Rattle.array_tree.specs.Trees.{sequences_of}
use Rattle.array_tree.specs.declared.tree.Blocks.{out-Blocks}
use Rattle.array_tree.proofs.Views.{sequences_of-blocks}
use Rattle.array_meaning.specs.Stores.{cells_of}
use Rattle.array_meaning.specs.Sites.{phase_rounds}
use Rattle.array_eval.specs.Views.{vars_of}
use Rattle.phase_order.specs.Tests.{crossing}
use Rattle.touch_bounds.proofs.RangeLemmas.{fixed_within}
use Rattle.pipe_walk.proofs.PhaseLemmas.{few_members, few_phases}
use Rattle.pipe_walk.proofs.StretchLemmas.{nothing_found}
use Rattle.pipe_walk.proofs.crossing.is_seen_clear.Goals as goal

pub returns-then-members-lt2 : goal.returns-then-members-lt2
returns-then-members-lt2 c =
    few_members c.args.layout.now (sequences_of c.args.phases.now) c.args.turns.var.now c.args.turns.low c.args.turns.high c.args.members (vars_of c.args.scope.now) c.if-members-lt2.true

pub returns-then-len-lt2 : goal.returns-then-len-lt2
returns-then-len-lt2 c =
    let arrays = c.args.layout.now in
    let vars = vars_of c.args.scope.now in
    let phases = (out-Blocks c.args.phases.now).blocks.items in
    let counted = c.len.ensures in
    let few = c.if-len-lt2.true in
    let alone : length phases < 2 = grind (arith, common_steps) in
    ap (λ bs. crossing arrays (cells_of arrays) (phase_rounds bs c.args.turns.var.now c.args.turns.low c.args.turns.high c.args.members vars)) (sequences_of-blocks c.args.phases.now)
    ∙ few_phases arrays phases c.args.turns.var.now c.args.turns.low c.args.turns.high c.args.members vars alone

pub returns : goal.returns
returns c =
    let arrays = c.args.layout.now in
    let vars = vars_of c.args.scope.now in
    let rounds = phase_rounds (sequences_of c.args.phases.now) c.args.turns.var.now c.args.turns.low c.args.turns.high c.args.members vars in
    OnTrue_from c.members_are_clear.result (crossing arrays (cells_of arrays) rounds ≡ None)
    (λ yes. nothing_found arrays rounds (OnTrue_at yes c.members_are_clear.ensures vars (fixed_within vars)))
