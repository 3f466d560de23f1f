use Rattle.std.proofs.Common.{ap, ◌∙◌, w64}
use Rattle.std.proofs.lemmas.Int.{wrapping_add_is}
use Rattle.array_meaning.specs.Stores.{at_cell}
use Rattle.array_meaning.specs.Values.{wrapping_sum}
use Rattle.array_eval.specs.Traces.{noted}
use Rattle.array_eval.proofs.fixed.FixedTurn.run.Goals as goal

pub returns-in-Adds : goal.returns-in-Adds
returns-in-Adds c =
    let had = c.read.result in
    let number = c.evaluate-number-in-Adds.result in
    rw c.in-Adds.is (c.write-in-Adds.ensures ∙ ap (λ value. noted c.in-Adds.cell value c.args.store.now)
    (wrapping_add_is w64 had number (record { sfits = c.read.type_inv }) (record { sfits = c.evaluate-number-in-Adds.type_inv })
    ∙ ap (λ a. wrapping_sum a number) c.read.ensures
    ∙ ap (wrapping_sum (at_cell c.args.store.now.cells c.in-Adds.cell)) c.evaluate-number-in-Adds.ensures))
