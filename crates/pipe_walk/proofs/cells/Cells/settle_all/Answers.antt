use Rattle.std.proofs.Common.{◌≡◌, ℕ, ◌+◌, ◌<◌, length, sym, ap, subst, ◌∙◌, arith}
use Rattle.std.specs.Prelude.{◌||◌, slice_index_or, slice_set}
use Rattle.pipe_walk.specs.declared.touch.Touch.{Touch}
use Rattle.pipe_walk.specs.Inside.Members.{joined, touch_in}
use Rattle.pipe_walk.specs.Inside.Tables.{passed, past_in}
use Rattle.pipe_walk.specs.Inside.Cells.{CellParts}
use Rattle.pipe_walk.proofs.CellLemmas.{IsSettling, settling_none, settling_more}
use Rattle.pipe_walk.proofs.cells.Cells.settle_all.Goals as goal

pub loop-cell-init : goal.loop-cell-init
loop-cell-init c =
    settling_none c.args.self.now (λ cell. joined (touch_in c.args.self.now.touches cell) (touch_in c.args.everywhere.now (slice_index_or c.args.owners.now cell 0)))

pub loop-cell-preserved : goal.loop-cell-preserved
loop-cell-preserved c =
    let before = c.args.self.now in
    let now = c.loop-cell.self in
    let cell = c.loop-cell.cell in
    let everywhere = c.args.everywhere.now in
    let owners = c.args.owners.now in
    let inv = c.loop-cell.invariant in
    let touch : ℕ → Touch = λ k. joined (touch_in before.touches k) (touch_in everywhere (slice_index_or owners k 0)) in
    let is : c.with-touch.result ≡ touch cell
    = c.with-touch.ensures
    ∙ ap (λ t. joined t c.touch_in.result) (c.touch_of.ensures ∙ ap (λ ts. touch_in ts cell) inv.touches)
    ∙ ap (joined (touch_in before.touches cell)) (c.touch_in.ensures ∙ ap (touch_in everywhere) c.owner_of-owner.ensures) in
    let long = ap (λ (p : CellParts). length p.past) c.self.view_is in
    let small : cell < length before.past = let a = c.loop-cell-test.true in let b = c.len-cell-end.ensures in omega arith in
    let own : Touch → CellParts = λ t. record now {
      past = slice_set now.past cell (passed (past_in now.past cell) t);
      crossed = now.crossed || (passed (past_in now.past cell) t).crossed;
    } in
    subst (λ new. IsSettling before new touch (cell + 1)) (sym c.pass.ensures)
    (subst (λ t. IsSettling before (own t) touch (cell + 1)) (sym is)
    (settling_more before now touch cell inv small (now.crossed || (passed (past_in now.past cell) (touch cell)).crossed)))
