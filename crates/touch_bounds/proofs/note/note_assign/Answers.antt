use Rattle.std.proofs.lemmas.Bool.{OnTrue_at, OnTrue_from}
use Rattle.array_tree.specs.Trees.{expression_of}
use Rattle.touch_bounds.specs.Ranges.{bounds_of}
use Rattle.touch_bounds.specs.Touches.{IsAssignNoted}
use Rattle.touch_bounds.proofs.NotedLemmas.{wider_trans, assign_noted}
use Rattle.touch_bounds.proofs.note.note_assign.Goals as goal

pub returns-then-not-note_reads-2-clause-wider : goal.returns-then-not-note_reads-2-clause-wider
returns-then-not-note_reads-2-clause-wider c =
    wider_trans c.args.touches.now c.note_reads.new.touches c.note_reads-2.new.touches c.note_reads.ensures.wider c.note_reads-2.ensures.wider

pub returns-clause-wider : goal.returns-clause-wider
returns-clause-wider c =
    wider_trans c.args.touches.now c.note_reads.new.touches c.note_index.new.touches c.note_reads.ensures.wider
    (wider_trans c.note_reads.new.touches c.note_reads-2.new.touches c.note_index.new.touches c.note_reads-2.ensures.wider c.note_index.ensures.wider)

pub returns-clause-noted : goal.returns-clause-noted
returns-clause-noted c =
    let arrays = c.args.layout.now in
    let bounds = bounds_of c.args.ranges.now in
    let index = expression_of c.args.index.now in
    let value = expression_of c.args.value.now in
    OnTrue_from c.note_index.result (IsAssignNoted arrays c.note_index.new.touches bounds c.args.array.now index value)
    (λ noted. assign_noted arrays c.note_reads.new.touches c.note_reads-2.new.touches c.note_index.new.touches bounds c.args.array.now index value
    c.if-not-note_reads.ensures.noted c.note_reads-2.ensures.wider c.if-not-note_reads-2.ensures.noted c.note_index.ensures.wider (OnTrue_at noted c.note_index.ensures.noted))
