use Rattle.std.proofs.Common.{◌&&◌, get_or, ap, ◌∙◌, arith}
use Rattle.std.specs.Prelude.{nat_eq}
use Rattle.array_tree.proofs.Bytes.{byte_next}
use Rattle.array_tree.proofs.name.are_same.Goals as goal

pub loop-place-preserved : goal.loop-place-preserved
loop-place-preserved c =
    let a = c.args.a.now in
    let b = c.args.b.now in
    let i = c.loop-place.place in
    let inside = c.loop-place-test.true in
    let same = c.if-a-b.false in
    ap (λ r. r && nat_eq (get_or a i 0) (get_or b i 0)) c.loop-place.invariant ∙ byte_next a b i inside (omega arith)
