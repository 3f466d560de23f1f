use Rattle.std.proofs.Common.{List, ℕ, refl, sym, subst, map, string_bytes}
use Rattle.outside_io.specs.Outside.{Appends}
use Rattle.lithe_call.specs.declared.status.Status.{Status}
use Rattle.lithe_call.specs.Served.{Outside}
use Rattle.lithe_call.specs.Printing.{AppendsPrefix}
use Rattle.picture_call.specs.Shown.{AreShown}
use Rattle.picture_call.proofs.Showing.{fault_shown, part_shown, whole_shown}
use Rattle.picture_call.proofs.call.serve_picture.Goals as goal

pub returns-in-Err : goal.returns-in-Err
returns-in-Err g c =
    let see : Outside _ _ _ = record { left = g.A.Source.left; read_faults = g.A.Source.faults; taken = g.B.Sink.taken; write_faults = g.B.Sink.faults; printed = g.E.Sink.taken; print_faults = g.E.Sink.faults } in
    let words = map string_bytes c.args.words.now in
    record {
      shown = subst (λ (s : Status). AreShown see words s c.args.source.now c.picture_for.new.source c.args.out.now c.args.out.now c.args.err.now c.print_fault.new.err)
          (sym c.print_fault.ensures.same)
          (fault_shown see words c.args.source.now c.picture_for.new.source c.picture_for.ensures.stays c.in-Err.fault c.args.out.now c.args.err.now c.print_fault.new.err
          c.in-Err.ensures.fault c.print_fault.ensures.printed);
    }

pub returns-then-not-write_all : goal.returns-then-not-write_all
returns-then-not-write_all g c =
    let see : Outside _ _ _ = record { left = g.A.Source.left; read_faults = g.A.Source.faults; taken = g.B.Sink.taken; write_faults = g.B.Sink.faults; printed = g.E.Sink.taken; print_faults = g.E.Sink.faults } in
    let words = map string_bytes c.args.words.now in
    let taken = subst (λ (text : List ℕ). AppendsPrefix (g.B.Sink.taken c.args.out.now) text (g.B.Sink.taken c.write_all.new.out)) c.deref.ensures.value (c.if-not-write_all.ensures.prefix refl) in
    record {
      shown = subst (λ (s : Status). AreShown see words s c.args.source.now c.picture_for.new.source c.args.out.now c.write_all.new.out c.args.err.now c.print.new.err)
          (sym c.print.ensures.same)
          (part_shown see words c.args.source.now c.picture_for.new.source c.picture_for.ensures.stays c.in-Ok.picture.verdict c.in-Ok.picture.text.items c.args.out.now c.write_all.new.out c.args.err.now c.print.new.err
          c.in-Ok.ensures.picture (c.if-not-write_all.ensures.failed refl) taken c.print.ensures.printed);
    }

pub returns : goal.returns
returns g c =
    let see : Outside _ _ _ = record { left = g.A.Source.left; read_faults = g.A.Source.faults; taken = g.B.Sink.taken; write_faults = g.B.Sink.faults; printed = g.E.Sink.taken; print_faults = g.E.Sink.faults } in
    let words = map string_bytes c.args.words.now in
    let taken = subst (λ (text : List ℕ). Appends (g.B.Sink.taken c.args.out.now) text (g.B.Sink.taken c.write_all.new.out)) c.deref.ensures.value (c.if-not-write_all.ensures.done refl) in
    record {
      shown = subst (λ (s : Status). AreShown see words s c.args.source.now c.picture_for.new.source c.args.out.now c.write_all.new.out c.args.err.now c.args.err.now)
          (sym c.status_by.ensures)
          (whole_shown see words c.args.source.now c.picture_for.new.source c.picture_for.ensures.stays c.in-Ok.picture.verdict c.in-Ok.picture.text.items c.args.out.now c.write_all.new.out c.args.err.now c.args.err.now
          c.in-Ok.ensures.picture taken refl);
    }
