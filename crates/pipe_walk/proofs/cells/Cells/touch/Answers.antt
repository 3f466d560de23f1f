use Rattle.std.proofs.Common.{◌≡◌, ℕ, false, List, ◌++◌, length, take, drop, ap, subst, sym, ◌∙◌, length-set}
use Rattle.std.proofs.Math.Seq.{take-append_seam}
use Rattle.pipe_walk.specs.declared.touch.Touch.{Touch}
use Rattle.pipe_walk.specs.Inside.Members.{joined, touch_in}
use Rattle.pipe_walk.specs.Inside.Tables.{added}
use Rattle.pipe_walk.specs.Inside.Cells.{CellParts, AreListed, is_listed}
use Rattle.pipe_walk.proofs.CellLemmas.{touch_first}
use Rattle.pipe_walk.proofs.cells.Cells.touch.Goals as goal

pub returns-in_ok-push-clause-listed : goal.returns-in_ok-push-clause-listed
returns-in_ok-push-clause-listed c =
    let before : CellParts = record {
      touches = c.self.inside.touches.items;
      past = c.self.inside.past.items;
      listed = c.self.inside.listed.items;
      crossed = c.self.inside.crossed;
    } in
    let list = c.add.new.list in
    let now = c.deref_mut.result.now in
    let size = ap length c.add.ensures ∙ length-set now c.args.cell (joined c.args.more (touch_in now c.args.cell)) ∙ c.deref_mut.ensures.len in
    let rest = list ++ drop (length list) before.touches in
    let whole = ap (λ (n : ℕ). take n rest) (sym size) ∙ take-append_seam list (drop (length list) before.touches) in
    let touches = whole ∙ c.add.ensures ∙ ap (added c.args.cell c.args.more) c.deref_mut.ensures.value in
    λ are cell out.
    let after = touch_first before c.args.cell c.args.more (subst AreListed (sym c.self.view_is) are) cell
    (subst (λ (listed : List ℕ). is_listed listed cell ≡ false) c.in_ok-push.ensures.items out) in
    (ap (λ (ts : List Touch). touch_in ts cell) touches ∙ after.0, after.1)
