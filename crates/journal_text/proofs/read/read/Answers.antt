use Rattle.std.proofs.Common.{◌≡◌, ℕ, Ok, Err, length, sym, ap, ◌∙◌, rules}
use Rattle.journal_text.specs.Reading.{words_of, count_in, journal_of}
use Rattle.journal_text.specs.declared.fault.TextFault.TheVariants.{WrongCount}
use Rattle.journal_text.proofs.Steps.{reads_on, first_fails, all_read, counted_right, counted_wrong}
use Rattle.journal_text.proofs.read.read.Goals as goal

pub returns-in_err-said : goal.returns-in_err-said
returns-in_err-said c =
    let same : c.from_residual.result ≡ Err c.in_err-said.field-0.0 = search rules in
    rw same (
    reads_on (λ number. number) (λ list. list) (count_in (words_of c.in-Some.first.now)) (journal_of c.args.plan.now c.args.text.now) c.in_err-said.field-0.0 c.in_err-said.ensures
    (first_fails c.args.plan.now c.args.text.now c.in-Some.first.now c.in-Some.rest.now c.in-Some.ensures.0)
    )

pub returns-then-found-said : goal.returns-then-found-said
returns-then-found-said c =
    let len : length c.in_ok-list.list.items ≡ c.len-found.result = search rules in
    all_read c.args.plan.now c.args.text.now c.in-Some.first.now c.in-Some.rest.now c.in-Some.ensures.0 c.in_ok-said.said c.in_ok-said.ensures c.in_ok-list.list.items c.in_ok-list.ensures.first
    ∙ counted_wrong c.in_ok-said.said c.in_ok-list.list.items (λ e. c.if-found-said.true (sym len ∙ e))
    ∙ ap (λ (found : ℕ). Err (WrongCount c.in_ok-said.said found)) len

pub returns : goal.returns
returns c =
    let len : length c.in_ok-list.list.items ≡ c.len-found.result = search rules in
    all_read c.args.plan.now c.args.text.now c.in-Some.first.now c.in-Some.rest.now c.in-Some.ensures.0 c.in_ok-said.said c.in_ok-said.ensures c.in_ok-list.list.items c.in_ok-list.ensures.first
    ∙ counted_right c.in_ok-said.said c.in_ok-list.list.items (len ∙ c.if-found-said.false)
    ∙ ap Ok (sym c.new.ensures)
