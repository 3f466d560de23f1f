use Rattle.array_tree.specs.Trees.{program_of}
use Rattle.picture_call.specs.Seen.{picture_seen}
use Rattle.picture_call.proofs.Refusing.{drawn_of, not_drawn_of}
use Rattle.picture_call.proofs.drawing.picture.Goals as goal

pub returns-clause-drawn : goal.returns-clause-drawn
returns-clause-drawn c =
    let wanted = c.args.wanted in
    drawn_of picture_seen wanted.form wanted.runner wanted.harts c.args.first.now c.args.second.now (program_of c.in_ok-program.program) c.requires.short c.in_ok-program.ensures.spelled
    c.picture_by.result c.picture_by.ensures.runs c.picture_by.ensures.drawn

pub returns-clause-fault : goal.returns-clause-fault
returns-clause-fault c =
    let wanted = c.args.wanted in
    not_drawn_of picture_seen wanted.form wanted.runner wanted.harts c.args.first.now c.args.second.now (program_of c.in_ok-program.program) c.requires.short c.in_ok-program.ensures.spelled
    c.picture_by.result c.picture_by.ensures.fault
