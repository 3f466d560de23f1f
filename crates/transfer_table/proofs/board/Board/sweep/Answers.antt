use Rattle.std.proofs.Common.{◌≡◌, ◌<◌, ◌+◌, sym, subst, ap, ◌∙◌, arith}
use Rattle.transfer_table.specs.Plan.{Plan, is_within, site_count}
use Rattle.transfer_table.specs.Table.{Position}
use Rattle.transfer_table.specs.Board.{AreEnds}
use Rattle.transfer_table.proofs.Ends.{end_few, none_after}
use Rattle.transfer_table.proofs.Sweeps.{IsSweptTo, swept_next, swept_past, swept_over}
use Rattle.transfer_table.proofs.board.Board.sweep.Goals.{then-is_within, else-is_within}
use Rattle.transfer_table.proofs.board.Board.sweep.Goals as goal

pub loop-i-preserved : goal.loop-i-preserved
loop-i-preserved c =
    let same = c.loop-i.invariant.0 in let inv = c.loop-i.invariant.1 in
    let plan : c.self-in-loop-i.inside.plan ≡ c.args.self.now.plan = ap (λ (q : Position). q.plan) c.self-in-loop-i.view_is ∙ same in
    let ends = subst (λ (q : Position). AreEnds q.plan c.self.inside.ends.items) c.self.view_is c.self.invariant.bounds in
    let few = end_few c.args.self.now.plan c.self.inside.ends.items c.args.site c.index.result.now ends c.requires.1 c.index.ensures in
    let lt : c.loop-i.i < site_count c.args.self.now.plan = let a = c.loop-i-test.true in omega arith in
    let test = ap (λ (p : Plan). is_within p c.args.site (c.loop-i.i + 1)) (sym plan) ∙ sym c.is_within.ensures in
    elim c.if-is_within.branch [
      | then-is_within w ↦ (let new = w.self-is ∙ w.sweep_one.ensures in (
        ap (λ (q : Position). q.plan) new ∙ same,
        subst (λ (q : Position). IsSweptTo c.args.self.now.plan c.args.site c.args.self.now.state q.state (c.loop-i.i + 1)) (sym new)
            (swept_next c.args.self.now.plan c.args.site c.args.self.now.state c.loop-i.self.state c.loop-i.i lt (test ∙ w.if-is_within.true) inv),
      ))
      | else-is_within w ↦ (
        ap (λ (q : Position). q.plan) w.self-is ∙ same,
        subst (λ (q : Position). IsSweptTo c.args.self.now.plan c.args.site c.args.self.now.state q.state (c.loop-i.i + 1)) (sym w.self-is)
            (swept_past c.args.self.now.plan c.args.site c.args.self.now.state c.loop-i.self.state c.loop-i.i (test ∙ w.if-is_within.false) inv),
      )
    ]

pub returns : goal.returns
returns c =
    let same = c.loop-i.invariant.0 in let inv = c.loop-i.invariant.1 in
    let ends = subst (λ (q : Position). AreEnds q.plan c.self.inside.ends.items) c.self.view_is c.self.invariant.bounds in
    let none = none_after c.args.self.now.plan c.self.inside.ends.items c.args.site c.index.result.now ends c.requires.1 c.index.ensures in
    let over = swept_over c.args.self.now.plan c.args.site c.args.self.now.state c.loop-i.self.state c.loop-i.i
    (λ j above small w. none j (let a = c.loop-i-test.false in omega arith) small w) inv in
    λ k. record { plan = same k; state = over k }
