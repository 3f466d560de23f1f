use Rattle.std.proofs.Common.{◌≡◌, ◌≤◌, ap, ◌∙◌, arith}
use Rattle.array_tree.specs.declared.tree.Blocks.{out-Blocks}
use Rattle.array_tree.specs.Trees.{Par, sequences_of, statement_of}
use Rattle.step_eval.specs.Shapes.{members_of}
use Rattle.step_eval.proofs.ShapeLemmas.{par_view, count_blocks, few_pieces}
use Rattle.step_eval.proofs.shape.members_of.Goals as goal

pub overflow_cast-result : goal.overflow_cast-result
overflow_cast-result c =
    let p = c.in-Par in
    let view : statement_of c.args.construct.now ≡ Par p.line (sequences_of p.branches) = ap statement_of p.is ∙ par_view p.line p.branches in
    let count = count_blocks p.branches in
    let pieces = ap members_of view in
    let whole = (out-Blocks p.branches).blocks.ok.0 in
    let few : members_of (statement_of c.args.construct.now) ≤ 64 = few_pieces (statement_of c.args.construct.now) c.requires in
    omega (arith, count, pieces, whole, few, c.len.ensures)

pub returns-in-Par : goal.returns-in-Par
returns-in-Par c =
    let p = c.in-Par in
    let view : statement_of c.args.construct.now ≡ Par p.line (sequences_of p.branches) = ap statement_of p.is ∙ par_view p.line p.branches in
    let count = count_blocks p.branches in
    let pieces = ap members_of view in
    let whole = (out-Blocks p.branches).blocks.ok.0 in
    omega (arith, count, pieces, whole, c.len.ensures)
