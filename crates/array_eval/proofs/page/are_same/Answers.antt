use Rattle.std.proofs.Common.{rules, ◌≡◌, ◌&&◌, w64, take, get_or, pos, ap, ◌∙◌, arith}
use Rattle.std.proofs.Math.Dec.{eqb}
use Rattle.std.specs.Ordering.{int_eq}
use mir.Val.{of_z}
use Rattle.array_eval.specs.Equal.{store_eq}
use Rattle.array_eval.proofs.PageLemmas.{same_next}
use Rattle.array_eval.proofs.page.are_same.Goals as goal

pub loop-cell-preserved : goal.loop-cell-preserved
loop-cell-preserved c =
    let a = c.args.a.now in
    let b = c.args.b.now in
    let i = c.loop-cell.cell in
    let x = get_or a i (pos 0) in
    let y = get_or b i (pos 0) in
    let test : eqb (of_z w64 x) (of_z w64 y) ≡ int_eq x y = search rules in
    let inside = c.loop-cell-test.true in
    let many = c.requires.a in
    let as_many = c.requires.b in
    ap (λ r. r && eqb (of_z w64 x) (of_z w64 y)) c.loop-cell.invariant
    ∙ ap (λ r. store_eq (take i a) (take i b) && r) test
    ∙ same_next a b i (omega (arith, inside, many)) (omega (arith, inside, as_many))
