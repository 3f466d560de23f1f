use Rattle.std.proofs.Common.{◌+◌, ℕ, Option, sym, ap, ◌∙◌, arith}
use Rattle.journal_text.specs.Reading.{lines_of}
use Rattle.run_audit.specs.Audit.{compared}
use Rattle.run_audit.proofs.Comparing.{earlier, next_line, no_line}
use Rattle.run_audit.proofs.auditing.compared.Goals as goal

pub returns-in_default-cut_line-clause-first : goal.returns-in_default-cut_line-clause-first
returns-in_default-cut_line-clause-first c =
    c.loop-wanted.invariant.same
    ∙ no_line c.loop-wanted.differs c.loop-wanted.lines c.loop-wanted.left.now c.loop-wanted.rest.now c.in-Some.wanted.now c.in-Some.more.now c.in-Some.ensures.0 c.in_default-cut_line.ensures

pub loop-wanted-preserved : goal.loop-wanted-preserved
loop-wanted-preserved c = record {
  room = omega (arith, c.loop-wanted.invariant.room, c.in-Some-cut_line.ensures.1);
  same = c.loop-wanted.invariant.same
      ∙ next_line c.loop-wanted.differs c.loop-wanted.lines c.loop-wanted.left.now c.loop-wanted.rest.now c.in-Some.wanted.now c.in-Some.more.now c.in-Some-cut_line.found.now c.in-Some-cut_line.after.now
      c.in-Some.ensures.0 c.in-Some-cut_line.ensures.0
      ∙ ap (λ (differs : Option ℕ). earlier differs (compared (c.loop-wanted.lines + 1) (lines_of c.in-Some.more.now) (lines_of c.in-Some-cut_line.after.now))) (sym c.first_difference-differs.ensures);
}
