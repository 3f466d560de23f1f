use Rattle.std.proofs.Common.{◌≡◌, ◌-◌, List, ℕ, codes, true, false, length, take, sym, ap, ◌∙◌, arith}
use Rattle.std.specs.Option.{option_map}
use Rattle.journal_text.specs.Reading.{is_word}
use Rattle.run_audit.specs.Parts.{parts_of, with_front}
use Rattle.run_audit.proofs.Cutting.{cut_text, front_more, no_mark, mark}
use Rattle.run_audit.proofs.parts.parts_of.Goals as goal

pub returns-then-eq : goal.returns-then-eq
returns-then-eq c =
    let same : is_word (codes "%%") c.in-Some.line.now ≡ true = ap (λ (t : List ℕ). is_word t c.in-Some.line.now) (sym c.as_slice.ensures) ∙ sym c.if-eq.ensures in
    mark (parts_of c.args.text.now) (take (length c.args.text.now - length c.loop-line.rest.now) c.args.text.now) c.loop-line.rest.now c.in-Some.line.now c.in-Some.after.now
    c.in-Some.ensures.0 same c.loop-line.invariant.same

pub loop-line-preserved : goal.loop-line-preserved
loop-line-preserved c =
    let other : is_word (codes "%%") c.in-Some.line.now ≡ false = ap (λ (t : List ℕ). is_word t c.in-Some.line.now) (sym c.as_slice.ensures) ∙ sym c.if-eq.ensures in
    let cut = cut_text c.loop-line.rest.now c.in-Some.line.now c.in-Some.after.now c.in-Some.ensures.0 in
    let front = front_more c.args.text.now c.loop-line.rest.now c.in-Some.line.now c.in-Some.after.now c.loop-line.invariant.rest cut in
    record {
      short = omega (arith, c.in-Some.ensures.1, c.loop-line.invariant.short);
      rest = sym front.1;
      same = no_mark (parts_of c.args.text.now) (take (length c.args.text.now - length c.loop-line.rest.now) c.args.text.now) c.loop-line.rest.now c.in-Some.line.now c.in-Some.after.now
          c.in-Some.ensures.0 other c.loop-line.invariant.same ∙ ap (λ (t : List ℕ). option_map (with_front t) (parts_of c.in-Some.after.now)) (sym front.0);
    }
