use Rattle.std.proofs.Common.{◌≡◌, ◌≤◌, ap, sym, subst, ◌∙◌, arith}
use Rattle.array_tree.specs.Trees.{Statement, declarations_of, statement_of, sequence_of, sequences_of, expression_of}
use Rattle.array_tree.specs.Trees as tree
use Rattle.array_meaning.specs.Stores.{arrays_of}
use Rattle.step_eval.specs.Nests.{phases_of}
use Rattle.touch_bounds.proofs.TreeLemmas.{statement-assign, statement-if, statement-par}
use Rattle.pipe_walk.proofs.FitLemmas.{few_rounds, for_view}
use Rattle.pipe_walk.proofs.construct.construct_crossing.Goals as goal

pub returns-in-Par : goal.returns-in-Par
returns-in-Par c =
    let p = c.in-Par in
    let view : statement_of c.args.construct.now ≡ tree.Par p.line (sequences_of p.branches) = ap statement_of p.is ∙ statement-par p.line p.branches in
    sym (few_rounds (arrays_of (declarations_of c.args.arrays.now)) (statement_of c.args.construct.now) c.args.vars.now
    (subst (λ (s : Statement). phases_of s ≤ 1) (sym view) (omega arith)))

pub returns-in-Assign : goal.returns-in-Assign
returns-in-Assign c =
    let p = c.in-Assign in
    let view : statement_of c.args.construct.now ≡ tree.Assign p.line p.array (expression_of p.index) (expression_of p.value)
    = ap statement_of p.is ∙ statement-assign p.line p.array p.index p.value in
    sym (few_rounds (arrays_of (declarations_of c.args.arrays.now)) (statement_of c.args.construct.now) c.args.vars.now
    (subst (λ (s : Statement). phases_of s ≤ 1) (sym view) (omega arith)))

pub returns-in-For : goal.returns-in-For
returns-in-For c =
    let p = c.in-For in
    let view : statement_of c.args.construct.now ≡ tree.For p.line p.var p.low p.high (sequence_of p.body)
    = ap statement_of p.is ∙ for_view p.line p.var p.low p.high p.body in
    sym (few_rounds (arrays_of (declarations_of c.args.arrays.now)) (statement_of c.args.construct.now) c.args.vars.now
    (subst (λ (s : Statement). phases_of s ≤ 1) (sym view) (omega arith)))

pub returns-in-If : goal.returns-in-If
returns-in-If c =
    let p = c.in-If in
    let view : statement_of c.args.construct.now ≡ tree.If p.line (expression_of p.cond) (sequence_of p.then_block) (sequence_of p.else_block)
    = ap statement_of p.is ∙ statement-if p.line p.cond p.then_block p.else_block in
    sym (few_rounds (arrays_of (declarations_of c.args.arrays.now)) (statement_of c.args.construct.now) c.args.vars.now
    (subst (λ (s : Statement). phases_of s ≤ 1) (sym view) (omega arith)))
