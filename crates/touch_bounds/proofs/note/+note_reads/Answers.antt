use Rattle.std.proofs.Common.{false, subst}
use Rattle.std.proofs.lemmas.Bool.{OnTrue_at, OnTrue_from}
use Rattle.array_tree.specs.Trees.{expression_of, Read, Binary}
use Rattle.touch_bounds.specs.Ranges.{bounds_of}
use Rattle.touch_bounds.specs.Touches.{AreReadsNoted, IsIndexNoted}
use Rattle.touch_bounds.proofs.NotedLemmas.{wider_trans, read_noted, binary_noted}
use Rattle.touch_bounds.proofs.note.+note_reads.Goals as goal

pub returns-else-not-note_reads-clause-wider : goal.returns-else-not-note_reads-clause-wider
returns-else-not-note_reads-clause-wider t c =
    wider_trans c.args.touches.now c.note_reads.new.touches c.note_index.new.touches c.note_reads.ensures.wider c.note_index.ensures.wider

pub returns-else-not-note_reads-clause-noted : goal.returns-else-not-note_reads-clause-noted
returns-else-not-note_reads-clause-noted t c =
    let arrays = c.args.layout.now in
    let bounds = bounds_of c.args.ranges.now in
    let after = c.note_index.new.touches in
    rw c.in-Read.is
    (OnTrue_from c.note_index.result (AreReadsNoted arrays after bounds (Read c.in-Read.array (expression_of c.in-Read.index.value)))
    (λ noted. read_noted arrays c.note_reads.new.touches after bounds c.in-Read.array (expression_of c.in-Read.index.value)
    (subst (λ e. AreReadsNoted arrays c.note_reads.new.touches bounds (expression_of e)) c.deref.ensures c.if-not-note_reads.ensures.noted) c.note_index.ensures.wider
    (subst (λ e. IsIndexNoted arrays after bounds false c.in-Read.array (expression_of e)) c.deref-in-Read.ensures (OnTrue_at noted c.note_index.ensures.noted))))

pub returns-else-not-note_reads-2-clause-wider : goal.returns-else-not-note_reads-2-clause-wider
returns-else-not-note_reads-2-clause-wider t c =
    wider_trans c.args.touches.now c.note_reads-in-Binary.new.touches c.note_reads-in-Binary-2.new.touches c.note_reads-in-Binary.ensures.wider c.note_reads-in-Binary-2.ensures.wider

pub returns-else-not-note_reads-2-clause-noted : goal.returns-else-not-note_reads-2-clause-noted
returns-else-not-note_reads-2-clause-noted t c =
    let arrays = c.args.layout.now in
    let bounds = bounds_of c.args.ranges.now in
    let after = c.note_reads-in-Binary-2.new.touches in
    rw c.in-Binary.is
    (OnTrue_from c.note_reads-in-Binary-2.result (AreReadsNoted arrays after bounds (Binary c.in-Binary.field-0 (expression_of c.in-Binary.left.value) (expression_of c.in-Binary.right.value)))
    (λ noted. binary_noted arrays c.note_reads-in-Binary.new.touches after bounds c.in-Binary.field-0 (expression_of c.in-Binary.left.value) (expression_of c.in-Binary.right.value)
    (subst (λ e. AreReadsNoted arrays c.note_reads-in-Binary.new.touches bounds (expression_of e)) c.deref-in-Binary.ensures c.if-not-note_reads-2.ensures.noted) c.note_reads-in-Binary-2.ensures.wider
    (subst (λ e. AreReadsNoted arrays after bounds (expression_of e)) c.deref-in-Binary-2.ensures (OnTrue_at noted c.note_reads-in-Binary-2.ensures.noted))))
