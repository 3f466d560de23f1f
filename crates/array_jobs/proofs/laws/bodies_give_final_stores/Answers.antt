use Rattle.array_meaning.specs.Stores.{arrays_of}
use Rattle.array_meaning.specs.Steps.{writes_of}
use Rattle.array_meaning.specs.Work.{sequence_work, first_store}
use Rattle.array_meaning.proofs.MergeLemmas.{after_last}
use Rattle.std.proofs.Common.{[]}
use Rattle.array_jobs.proofs.laws.bodies_give_final_stores.Goals as goal

pub returns : goal.returns
returns c program =
    let arrays = arrays_of program.arrays in
    let zeros = first_store arrays in
    after_last (writes_of arrays (sequence_work program.body []) zeros) zeros
