use Rattle.array_meaning.specs.Stores.{arrays_of}
use Rattle.array_meaning.specs.Work.{sequence_work}
use Rattle.array_meaning.specs.Touch.{walk}
use Rattle.std.proofs.Common.{[]}
use Rattle.site_walk.proofs.OutsideLemmas.{inside_of_none, none_of_inside}
use Rattle.site_walk.proofs.laws.outsides_are_found.Goals as goal

pub returns : goal.returns
returns c program =
    let arrays = arrays_of program.arrays in
    let visits = walk arrays (sequence_work program.body []) in
    (inside_of_none arrays visits, none_of_inside arrays visits)
