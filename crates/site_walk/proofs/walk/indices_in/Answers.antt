use Rattle.std.proofs.Common.{◌≡◌, [], Option, None, sym, ap, ◌∙◌}
use Rattle.array_tree.specs.Trees.{sequence_of, declarations_of}
use Rattle.array_meaning.specs.Stores.{Arrays, arrays_of}
use Rattle.array_meaning.specs.Steps.{Steps}
use Rattle.array_meaning.specs.Work.{sequence_work}
use Rattle.array_meaning.specs.Touch.{walk}
use Rattle.site_walk.specs.declared.fault.WalkFault.{WalkFault}
use Rattle.site_walk.specs.Outside.{visit_fault}
use Rattle.site_walk.specs.Firsts.{first_of, or_first}
use Rattle.site_walk.specs.Visits.{after}
use Rattle.site_walk.proofs.OutsideLemmas.{inside_of_none}
use Rattle.site_walk.proofs.FirstLemmas.{or_first_each}
use Rattle.site_walk.proofs.walk.indices_in.Goals as goal

-- What the walk from no fault on has kept is the first fault.
first_kept : (arrays layout : Arrays) (steps : Steps) (found : Option WalkFault) → layout ≡ arrays →
    found ≡ after (or_first (visit_fault layout)) layout steps None → first_of (visit_fault arrays) (walk arrays steps) ≡ found
first_kept arrays layout steps found same kept =
    sym (ap (λ a. first_of (visit_fault a) (walk a steps)) same) ∙ sym (kept ∙ or_first_each (visit_fault layout) (walk layout steps) None)

pub returns-in-None-clause-indices : goal.returns-in-None-clause-indices
returns-in-None-clause-indices c =
    let arrays = arrays_of (declarations_of c.args.program.now.arrays) in
    let work = sequence_work (sequence_of c.args.program.now.body) [] in
    inside_of_none arrays (walk arrays work) (first_kept arrays c.args.layout.now work c.keep_body.new.found c.requires.layout c.keep_body.ensures ∙ c.in-None.is)

pub returns-in-None-clause-ok : goal.returns-in-None-clause-ok
returns-in-None-clause-ok c =
    let arrays = arrays_of (declarations_of c.args.program.now.arrays) in
    let work = sequence_work (sequence_of c.args.program.now.body) [] in
    first_kept arrays c.args.layout.now work c.keep_body.new.found c.requires.layout c.keep_body.ensures ∙ c.in-None.is

pub returns-in-Some-clause-fault : goal.returns-in-Some-clause-fault
returns-in-Some-clause-fault c =
    let arrays = arrays_of (declarations_of c.args.program.now.arrays) in
    let work = sequence_work (sequence_of c.args.program.now.body) [] in
    first_kept arrays c.args.layout.now work c.keep_body.new.found c.requires.layout c.keep_body.ensures ∙ c.in-Some.is
