use Rattle.std.proofs.Common.{◌≡◌, ℕ, ◌+◌, ◌<◌, false, List, [], length, get_or, sym, ap, subst, ◌∙◌, arith}
use Rattle.std.specs.Prelude.{slice_set}
use Rattle.pipe_walk.specs.Inside.Members.{untouched}
use Rattle.pipe_walk.specs.Inside.Tables.{no_past}
use Rattle.pipe_walk.specs.Inside.Cells.{CellParts}
use Rattle.pipe_walk.proofs.CellLemmas.{IsClearing, clearing_none, clearing_more, clearing_all}
use Rattle.pipe_walk.proofs.cells.Cells.clear_listed.Goals as goal

-- The cells with another list, where no pieces crossed.
abbrev with_list : CellParts → List ℕ → CellParts
with_list c listed = record { touches = c.touches; past = c.past; listed = listed; crossed = false }

pub loop-i-init : goal.loop-i-init
loop-i-init c = clearing_none c.args.self.now c.requires

pub loop-i-preserved : goal.loop-i-preserved
loop-i-preserved c =
    let before = c.args.self.now in
    let now = c.loop-i.self in
    let i = c.loop-i.i in
    let cell = c.index-cell.result.now in
    let inv = c.loop-i.invariant in
    let long = ap (λ (p : CellParts). length p.listed) c.self.view_is in
    let small : i < length before.listed = let a = c.loop-i-test.true in let b = c.len-i-end.ensures in omega arith in
    let read : cell ≡ get_or before.listed i cell
    = c.index-cell.ensures ∙ ap (λ (p : CellParts). get_or p.listed i cell) c.self-in-loop-i.view_is ∙ ap (λ listed. get_or listed i cell) inv.listed in
    subst (λ new. IsClearing before new (i + 1)) (sym c.clear_one.ensures)
    (subst (λ k. IsClearing before (record now { touches = slice_set now.touches k untouched; past = slice_set now.past k no_past }) (i + 1)) (sym read)
    (clearing_more before now i cell small inv))

pub returns : goal.returns
returns c =
    let long = ap (λ (p : CellParts). length p.listed) c.self.view_is in
    ap (with_list (record { touches = c.self-2.inside.touches.items; past = c.self-2.inside.past.items; listed = []; crossed = false })) c.clear.ensures.items
    ∙ ap (λ (p : CellParts). with_list p []) c.self-2.view_is
    ∙ clearing_all c.args.self.now c.loop-i.self c.loop-i.i (let a = c.loop-i-test.false in let b = c.len-i-end.ensures in omega arith) c.loop-i.invariant
