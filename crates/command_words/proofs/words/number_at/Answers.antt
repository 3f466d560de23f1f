use Rattle.std.proofs.Common.{◌≡◌, Some, None, sym, ap, ◌∙◌}
use Rattle.std.specs.Option.{option_and_then}
use Rattle.clap.specs.Words.{rows_of, found_of, first_of}
use Rattle.clap.proofs.WalkLemmas.{first_value-rows}
use Rattle.command_words.specs.Form.{number_in}
use Rattle.command_words.proofs.words.number_at.Goals as goal

pub returns-in_err-get_str-clause-same : goal.returns-in_err-get_str-clause-same
returns-in_err-get_str-clause-same c =
    let none : first_of c.args.name.now (rows_of (found_of c.args.given.now)) ≡ None = sym (first_value-rows (found_of c.args.given.now) c.args.name.now) ∙ sym c.in_err-get_str.ensures in
    c.from_residual.ensures ∙ sym (ap (option_and_then (number_in c.args.least c.args.most)) none)

pub returns-clause-same : goal.returns-clause-same
returns-clause-same c =
    let some : first_of c.args.name.now (rows_of (found_of c.args.given.now)) ≡ Some c.in_ok-get_str.field-0.now = sym (first_value-rows (found_of c.args.given.now) c.args.name.now) ∙ sym c.in_ok-get_str.ensures in
    c.number_in.ensures.same ∙ sym (ap (option_and_then (number_in c.args.least c.args.most)) some)
