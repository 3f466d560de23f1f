use Rattle.std.proofs.Common.{◌≡◌, ◌∙◌, ◌∷◌, [], ℕ, List, map, option_map, string_bytes, codes, Some, Bor, sym, ap}
use Rattle.command_words.specs.Form.{form_of}
use Rattle.picture_call.specs.Words.{form_named, parsed_run}
use Rattle.picture_call.proofs.Parsed.{all_given, no_count, no_form, no_runner, no_values, unparsed}
use Rattle.picture_call.proofs.parsing.parsed.Goals as goal

pub returns-in_default-form_named-clause-none : goal.returns-in_default-form_named-clause-none
returns-in_default-form_named-clause-none c =
    let word = string_bytes c.in-Some.first.now in
    let options = map string_bytes c.in-Some.options.now in
    ap parsed_run (ap (map string_bytes) c.in-Some.ensures.cases.0)
    ∙ no_form word options (ap form_named (sym c.deref.ensures) ∙ sym c.in_default-form_named.ensures)

pub returns-in_default-values-clause-none : goal.returns-in_default-values-clause-none
returns-in_default-values-clause-none c =
    let word = string_bytes c.in-Some.first.now in
    let options = map string_bytes c.in-Some.options.now in
    ap parsed_run (ap (map string_bytes) c.in-Some.ensures.cases.0)
    ∙ no_values word options c.in-Some-form_named.form (ap form_named (sym c.deref.ensures) ∙ sym c.in-Some-form_named.ensures) (sym c.in_default-values.ensures)

pub returns-in_default-runner_named-clause-none : goal.returns-in_default-runner_named-clause-none
returns-in_default-runner_named-clause-none c =
    let word = string_bytes c.in-Some.first.now in
    let options = map string_bytes c.in-Some.options.now in
    ap parsed_run (ap (map string_bytes) c.in-Some.ensures.cases.0)
    ∙ no_runner word options c.in-Some-form_named.form (ap form_named (sym c.deref.ensures) ∙ sym c.in-Some-form_named.ensures)
    c.in-Some-values.value.now (option_map (λ (name : Bor (List ℕ)). name.now) c.in-Some-values.of) (sym c.in-Some-values.ensures) (sym c.in_default-runner_named.ensures)

pub returns-in-Err-clause-none : goal.returns-in-Err-clause-none
returns-in-Err-clause-none c =
    let word = string_bytes c.in-Some.first.now in
    let options = map string_bytes c.in-Some.options.now in
    let run : map string_bytes c.deref-2.result.now ≡ codes "run" ∷ codes "--harts" ∷ c.in-Some-values.value.now ∷ [] =
    ap (map string_bytes) c.deref-2.ensures.value ∙ c.in_ok-run.ensures in
    unparsed (map string_bytes c.args.words.now) (map string_bytes c.deref-2.result.now) c.in-Err.fault c.in-Err.ensures.none
    (λ none. ap parsed_run (ap (map string_bytes) c.in-Some.ensures.cases.0)
    ∙ no_count word options c.in-Some-form_named.form (ap form_named (sym c.deref.ensures) ∙ sym c.in-Some-form_named.ensures)
    c.in-Some-values.value.now (option_map (λ (name : Bor (List ℕ)). name.now) c.in-Some-values.of) (sym c.in-Some-values.ensures)
    c.in-Some-runner_named.runner (sym c.in-Some-runner_named.ensures) (ap form_of (sym run) ∙ none))

pub returns-clause-parsed : goal.returns-clause-parsed
returns-clause-parsed c =
    let word = string_bytes c.in-Some.first.now in
    let options = map string_bytes c.in-Some.options.now in
    let run : map string_bytes c.deref-2.result.now ≡ codes "run" ∷ codes "--harts" ∷ c.in-Some-values.value.now ∷ [] =
    ap (map string_bytes) c.deref-2.ensures.value ∙ c.in_ok-run.ensures in
    ap parsed_run (ap (map string_bytes) c.in-Some.ensures.cases.0)
    ∙ all_given word options c.in-Some-form_named.form (ap form_named (sym c.deref.ensures) ∙ sym c.in-Some-form_named.ensures)
    c.in-Some-values.value.now (option_map (λ (name : Bor (List ℕ)). name.now) c.in-Some-values.of) (sym c.in-Some-values.ensures)
    c.in-Some-runner_named.runner c.in-Ok.command (sym c.in-Some-runner_named.ensures) (ap form_of (sym run) ∙ c.in-Ok.ensures.form)
    ∙ ap (λ (n : ℕ). Some (c.in-Some-runner_named.runner, n)) (sym c.harts.ensures)
