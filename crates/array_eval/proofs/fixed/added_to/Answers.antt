use Rattle.std.proofs.Common.{◌≡◌, true, ap, sym, ◌∙◌}
use Rattle.array_tree.specs.Equal.{expression_eq}
use Rattle.array_tree.specs.Trees.{Read, Binary, expression_of}
use Rattle.array_tree.specs.declared.tree.Op.TheVariants as op
use Rattle.array_eval.proofs.FixedLemmas.{added}
use Rattle.array_eval.proofs.fixed.added_to.Goals as goal

pub returns-then-is_read : goal.returns-then-is_read
returns-then-is_read c =
    let sum = c.in-Binary in
    let read = Read c.args.array.now (expression_of c.args.index.now) in
    let whole : expression_of c.args.value.now ≡ Binary sum.op (expression_of sum.left.value) (expression_of sum.right.value) = ap expression_of sum.is in
    let kind : sum.op ≡ op.Add = c.in-Add.is in
    let left : true ≡ expression_eq (expression_of sum.left.value) read =
    sym c.if-is_read.true ∙ c.is_read.ensures ∙ ap (λ e. expression_eq (expression_of e) read) c.deref.ensures in
    added (expression_of c.args.value.now) (expression_of sum.left.value) (expression_of sum.right.value) c.args.array.now (expression_of c.args.index.now)
    (whole ∙ ap (λ o. Binary o (expression_of sum.left.value) (expression_of sum.right.value)) kind) left
    ∙ ap (λ e. Binary op.Add read (expression_of e)) (sym c.deref-then-is_read.ensures)
