use Rattle.std.proofs.Common.{◌≡◌, ◌+◌, ◌++◌, ◌∷◌, [], ℕ, Vec, Global, length, Err, ap, ◌∙◌, arith, rules, length-append}
use Rattle.transfer_table.specs.declared.entry.Entry.{Entry}
use Rattle.journal_text.specs.Reading.{lines_of, entries_of, entry_of, words_of}
use Rattle.journal_text.proofs.Steps.{reads_on, line_fails, line_read, behind}
use Rattle.journal_text.proofs.read.entries_of.Goals as goal

pub returns-in_err-entry-clause-first : goal.returns-in_err-entry-clause-first
returns-in_err-entry-clause-first c =
    let same : c.from_residual.result ≡ Err c.in_err-entry.field-0.0 = search rules in
    let len : length c.loop-line.list.items ≡ c.len.result = search rules in
    rw same (
    reads_on (λ entry. entry) (λ (list : Vec Entry Global). list.items) (entry_of c.args.plan.now c.len.result (words_of c.in-Some.line.now)) (entries_of c.args.plan.now 0 (lines_of c.args.text.now)) c.in_err-entry.field-0.0 c.in_err-entry.ensures
    (line_fails c.args.plan.now (entries_of c.args.plan.now 0 (lines_of c.args.text.now)) c.loop-line.list.items c.len.result c.loop-line.rest.now c.in-Some.line.now c.in-Some.after.now
    (c.loop-line.invariant.same ∙ ap (λ (place : ℕ). behind c.loop-line.list.items (entries_of c.args.plan.now place (lines_of c.loop-line.rest.now))) len) c.in-Some.ensures.0)
    )

pub loop-line-preserved : goal.loop-line-preserved
loop-line-preserved c =
    let items = c.loop-line.list.items in
    let len : length items ≡ c.len.result = search rules in
    let more : length (items ++ c.in_ok-entry.entry ∷ []) ≡ length items + 1 = length-append items (c.in_ok-entry.entry ∷ []) in
    rw c.in_ok-push.ensures.items record {
      room = omega (arith, more, c.loop-line.invariant.room, c.in-Some.ensures.1);
      same = rw more (line_read c.args.plan.now (entries_of c.args.plan.now 0 (lines_of c.args.text.now)) items (length items) c.loop-line.rest.now c.in-Some.line.now c.in-Some.after.now c.loop-line.invariant.same c.in-Some.ensures.0 c.in_ok-entry.entry
          (ap (λ (place : ℕ). entry_of c.args.plan.now place (words_of c.in-Some.line.now)) len ∙ c.in_ok-entry.ensures));
    }
