use Rattle.std.proofs.Common.{◌≡◌, ℕ, [], pos, length, ap, ◌∙◌}
use Rattle.std.proofs.lemmas.List.{length-replicate}
use Rattle.std.proofs.lemmas.Result.{IfOk-weaker}
use Rattle.array_tree.specs.Trees.{declarations_of, sequence_of}
use Rattle.array_meaning.specs.Stores.{arrays_of, cells_of}
use Rattle.array_meaning.specs.Work.{sequence_work}
use Rattle.array_eval.specs.Traces.{Trace}
use Rattle.array_eval.proofs.TraceLemmas.{length_traced}
use Rattle.array_eval.proofs.run.run_one.Goals as goal

pub returns-clause-whole : goal.returns-clause-whole
returns-clause-whole c =
    let program = c.args.program.now in
    let arrays = arrays_of (declarations_of program.arrays) in
    let long : Trace → ℕ = λ trace. length trace.cells in
    let layout = c.in_ok-layout.layout in
    let left = ap long c.run_block.ensures ∙ length_traced layout (sequence_work (sequence_of program.body) []) c.in_ok-store.store
    ∙ ap long c.in_ok-store.ensures ∙ ap length c.in_ok-zero.ensures ∙ length-replicate c.cells.result (pos 0) ∙ c.cells.ensures.cells
    ∙ ap cells_of c.in_ok-layout.ensures in
    IfOk-weaker c.to_store.result (λ store. store ≡ c.run_block.new.store.cells) (λ store. length store ≡ cells_of arrays)
    (λ store e. ap length e ∙ left) c.to_store.ensures.values
