use Rattle.std.proofs.Common.{◌+◌, ◌∙◌, sym, ap, arith, take, drop, length-drop}
use Rattle.std.specs.Prelude.{slice_index}
use Rattle.array_tokens.specs.Lexemes.{cut, front_of, spots, with_tokens}
use Rattle.array_tokens.proofs.Cutting.{cut_step, newlines}
use Rattle.array_tokens.proofs.lexer.cut.Goals as goal

pub loop-rest-preserved : goal.loop-rest-preserved
loop-rest-preserved c =
    let front = c.in_ok-length.ensures in
    let n = c.in_ok-length.length in
    let bytes = c.loop-rest.rest.now in
    let stands = front_of (slice_index bytes 0) bytes in
    record {
      found = rw (c.newlines-line.ensures.count, c.split_at.ensures.back, c.split_at.ensures.front)
          (front.ok (cut 0 (c.loop-rest.at + n) (c.loop-rest.line + newlines (take n bytes)) (drop n bytes))
          ∙ ap (with_tokens (spots c.loop-rest.found.items)) (sym (cut_step bytes n c.loop-rest.at c.loop-rest.line stands.0 (omega (arith, front.some, front.within)) front.some (ap (λ m. (stands.0, m)) front.length)))
          ∙ c.loop-rest.invariant.found);
      place = rw (c.split_at.ensures.back) (omega (arith, c.loop-rest.invariant.place, front.within, length-drop n bytes));
      lines = omega (arith, c.loop-rest.invariant.lines, c.newlines-line.ensures.bound, c.split_at.ensures.front_len, front.within);
    }
