use Rattle.std.proofs.Common.{◌≡◌, ◌<◌, ◌∙◌, ◌+◌, length, rules, ap, to_z, w64}
use mir.Val.{SFits}
use Rattle.std.proofs.lemmas.Int.{to_z-of_z}
use Rattle.array_meaning.specs.Values.{wrapping_sum}
use Rattle.array_meaning.specs.Stores.{at_cell}
use Rattle.lithe_call.specs.Summary.{sum_of}
use Rattle.lithe_call.proofs.Sums.{with_rest, sum_more}
use Rattle.lithe_call.proofs.summing.sum.Goals as goal

pub loop-cell-preserved : goal.loop-cell-preserved
loop-cell-preserved c =
    let store = c.args.store.now in
    let cell = c.loop-cell.cell in
    let sum = to_z w64 c.loop-cell.sum-bits in
    let so_far : with_rest sum cell store ≡ sum_of store = c.loop-cell.invariant in
    let added : c.added-sum.result ≡ wrapping_sum sum (at_cell store cell) = search rules in
    let inside : cell < length store = search rules in
    let same : with_rest c.added-sum.result (cell + 1) store ≡ sum_of store = ap (λ value. with_rest value (cell + 1) store) added ∙ sum_more sum cell store inside ∙ so_far in
    let fits : SFits w64 c.added-sum.result = search rules in
    ap (λ value. with_rest value (cell + 1) store) (to_z-of_z w64 c.added-sum.result fits) ∙ same
