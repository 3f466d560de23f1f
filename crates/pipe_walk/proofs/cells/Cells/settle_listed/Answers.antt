use Rattle.std.proofs.Common.{◌≡◌, ◌+◌, ◌<◌, length, get_or, sym, ap, subst, ◌∙◌, arith}
use Rattle.pipe_walk.specs.Inside.Cells.{CellParts, AreCells}
use Rattle.pipe_walk.proofs.CellLemmas.{IsJoining, joined_one, joining_none, joining_more, joining_all}
use Rattle.pipe_walk.proofs.cells.Cells.settle_listed.Goals as goal

pub loop-i-init : goal.loop-i-init
loop-i-init c = joining_none c.args.self.now c.requires

pub loop-i-preserved : goal.loop-i-preserved
loop-i-preserved c =
    let before = c.args.self.now in
    let now = c.loop-i.self in
    let i = c.loop-i.i in
    let cell = c.index-cell.result.now in
    let inv = c.loop-i.invariant in
    let is : AreCells now = subst AreCells c.self-in-loop-i.view_is c.self-in-loop-i.invariant in
    let long = ap (λ (p : CellParts). length p.listed) c.self.view_is in
    let small : i < length before.listed = let a = c.loop-i-test.true in let b = c.len-i-end.ensures in omega arith in
    let read : cell ≡ get_or before.listed i cell
    = c.index-cell.ensures ∙ ap (λ (p : CellParts). get_or p.listed i cell) c.self-in-loop-i.view_is ∙ ap (λ listed. get_or listed i cell) inv.listed in
    subst (λ new. IsJoining before new (i + 1)) (sym c.settle_one.ensures)
    (subst (λ k. IsJoining before (joined_one now k) (i + 1)) (sym read) (joining_more before now i cell is small inv))

pub returns-clause-settled : goal.returns-clause-settled
returns-clause-settled c =
    let long = ap (λ (p : CellParts). length p.listed) c.self.view_is in
    (joining_all c.args.self.now c.loop-i.self c.loop-i.i c.requires (let a = c.loop-i-test.false in let b = c.len-i-end.ensures in omega arith) c.loop-i.invariant).0

pub returns-clause-listed : goal.returns-clause-listed
returns-clause-listed c =
    let long = ap (λ (p : CellParts). length p.listed) c.self.view_is in
    (joining_all c.args.self.now c.loop-i.self c.loop-i.i c.requires (let a = c.loop-i-test.false in let b = c.len-i-end.ensures in omega arith) c.loop-i.invariant).1
