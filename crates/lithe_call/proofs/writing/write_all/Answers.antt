use Rattle.std.proofs.Common.{◌≤◌, List, ℕ, length, take, drop, sym, subst, arith, length-drop}
use Rattle.std.proofs.Math.Seq.{take-add}
use Rattle.outside_io.specs.Outside.{Appends}
use Rattle.lithe_call.proofs.Taken.{append_more, rest_of}
use Rattle.lithe_call.proofs.writing.write_all.Goals as goal

pub loop-at-preserved : goal.loop-at-preserved
loop-at-preserved g c =
    let bytes = c.args.bytes.now in
    let at = c.loop-at.at in
    let did = c.in-Took.ensures.does in
    let short : c.in-Took.count ≤ length (drop at bytes) = subst (λ (l : List ℕ). c.in-Took.count ≤ length l) (rest_of at bytes) did.1 in
    let more : Appends (g.B.Sink.taken c.loop-at.out) (take c.in-Took.count (drop at bytes)) (g.B.Sink.taken c.write.new.self) = subst (λ (l : List ℕ). Appends (g.B.Sink.taken c.loop-at.out) (take c.in-Took.count l) (g.B.Sink.taken c.write.new.self)) (rest_of at bytes) did.2 in
    let all = append_more _ _ _ _ _ c.loop-at.invariant.taken more in
    record {
      count = omega (arith, c.loop-at.invariant.count, c.write.ensures.count);
      inside = omega (arith, short, length-drop at bytes, c.loop-at.invariant.inside);
      taken = subst (λ (l : List ℕ). Appends (g.B.Sink.taken c.args.out.now) l (g.B.Sink.taken c.write.new.self)) (sym (take-add at c.in-Took.count bytes)) all;
    }
