use Rattle.std.proofs.Common.{◌≡◌, ◌≤◌, ap, ◌∙◌, arith}
use Rattle.array_tree.specs.declared.tree.Blocks.{out-Blocks}
use Rattle.array_tree.specs.Trees.{Team, sequences_of, statement_of}
use Rattle.step_eval.specs.Nests.{phases_of}
use Rattle.step_eval.proofs.PieceLemmas.{team_view}
use Rattle.step_eval.proofs.ShapeLemmas.{count_blocks, few_phases}
use Rattle.step_eval.proofs.shape.phases_of.Goals as goal

pub overflow_cast-result : goal.overflow_cast-result
overflow_cast-result c =
    let t = c.in-Team in
    let view : statement_of c.args.construct.now ≡ Team t.line t.var t.low t.high t.members (sequences_of t.phases)
    = ap statement_of t.is ∙ team_view t.line t.var t.low t.high t.members t.phases in
    let count = count_blocks t.phases in
    let phases = ap phases_of view in
    let whole = (out-Blocks t.phases).blocks.ok.0 in
    let few : phases_of (statement_of c.args.construct.now) ≤ 8 = few_phases (statement_of c.args.construct.now) c.requires in
    omega (arith, count, phases, whole, few, c.len.ensures)

pub returns-in-Team : goal.returns-in-Team
returns-in-Team c =
    let t = c.in-Team in
    let view : statement_of c.args.construct.now ≡ Team t.line t.var t.low t.high t.members (sequences_of t.phases)
    = ap statement_of t.is ∙ team_view t.line t.var t.low t.high t.members t.phases in
    let count = count_blocks t.phases in
    let phases = ap phases_of view in
    let whole = (out-Blocks t.phases).blocks.ok.0 in
    omega (arith, count, phases, whole, c.len.ensures)
