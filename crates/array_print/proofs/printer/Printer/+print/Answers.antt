use Rattle.std.proofs.Common.{◌≡◌, ℕ, List, ◌++◌, [], OnOk, rules, arith, false, sym, ap, ◌∙◌, subst}
use Rattle.std.proofs.lemmas.Grind.{common_steps}
use Rattle.array_tree.specs.declared.tree.Stmt.TheVariants.{rolls-If}
use Rattle.array_tree.specs.declared.tree.Stmt.TheFolds.{fold-roll-Stmt}
use Rattle.array_tree.specs.Trees.{Statement, If, Sequence, Sequences, expression_of, statement_of, sequence_of, sequences_of, statement_step, block_step, blocks_step}
use Rattle.array_print.specs.Texts.{range_text, dealt_text, body_text, else_text, statement_text, phases_text}
use Rattle.array_print.specs.Printers.{Adds}
use Rattle.array_print.proofs.Elses.{else_some}
use Rattle.array_print.proofs.Written.{same_text, then_adds, then_inside, on_inside, on_line}
use Rattle.array_print.proofs.printer.Printer.+print.Goals as goal

pub else_block-returns : goal.else_block-returns
else_block-returns t c =
    let full : c.args.block.now.statements.items ≡ [] → ⊥ = λ none. grind (arith, common_steps, c.is_empty.ensures, c.if-is_empty.false, none) in
    let old = c.args.self.now in
    let statements = sequence_of c.args.block.now in
    subst (λ x. OnOk c.block.result (Adds old x c.block.new.self)) (sym (else_some c.args.block.now (body_text old.margin.items statements) full))
    (on_inside c.block.result c.block.new.self (λ m. body_text m statements) (same_text c.as_slice.ensures c.in_ok-add.ensures) c.block.ensures)

pub for_loop-returns : goal.for_loop-returns
for_loop-returns t c =
    let word = same_text (ap (λ (x : List ℕ). c.args.self.now.margin.items ++ x) c.as_slice.ensures) c.in_ok-begin.ensures in
    let bounds : Adds c.begin.new.self (range_text c.args.var.now c.args.low c.args.high) c.range.new.self = search rules in
    let all = then_inside (λ m. body_text m (sequence_of c.args.body.now)) (then_adds word bounds) c.in_ok-block.ensures in
    on_line c.add.result c.add.new.self all c.as_slice-2.ensures c.add.ensures

pub statement-returns-in_ok-else_block-in-If : goal.statement-returns-in_ok-else_block-in-If
statement-returns-in_ok-else_block-in-If t c =
    let p = c.in-If in
    let margin = c.args.self.now.margin.items in
    let first = sequence_of p.then_block in
    let second = sequence_of p.else_block in
    let view : statement_of c.args.statement.now ≡ If p.line (expression_of p.cond) first second
    = ap statement_of (p.is ∙ sym (rolls-If p.line p.cond p.then_block p.else_block)) ∙ fold-roll-Stmt Statement Sequence Sequences statement_step block_step blocks_step _ in
    let word = same_text (ap (λ (x : List ℕ). margin ++ x) c.as_slice.ensures) c.in_ok-begin-in-If.ensures in
    let head = then_adds word c.in_ok-expression-in-If.ensures in
    let one = then_inside (λ m. body_text m first) head c.in_ok-block-in-If.ensures in
    let all = then_inside (λ m. else_text second (body_text m second)) one c.in_ok-else_block-in-If.ensures in
    subst (λ s. OnOk c.add.result (Adds c.args.self.now (statement_text margin s) c.add.new.self)) (sym view)
    (on_line c.add.result c.add.new.self all c.as_slice-in-If.ensures c.add.ensures)

pub team-returns : goal.team-returns
team-returns t c =
    let word = same_text (ap (λ (x : List ℕ). c.args.self.now.margin.items ++ x) c.as_slice.ensures) c.in_ok-begin.ensures in
    let dealt : Adds c.begin.new.self (dealt_text c.args.var.now c.args.low c.args.high c.args.members) c.dealt.new.self = search rules in
    let all = then_inside (λ m. phases_text false m (sequences_of c.args.phases.now)) (then_adds word dealt) c.in_ok-phases.ensures in
    on_line c.add.result c.add.new.self all c.as_slice-2.ensures c.add.ensures
