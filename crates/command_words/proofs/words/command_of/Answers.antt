use Rattle.std.proofs.Common.{◌≡◌, List, ℕ, map, string_bytes, codes, true, false, sym, ap, ◌∙◌}
use Rattle.std.specs.Str.{bytes_eq}
use Rattle.clap.proofs.WalkLemmas.{list_any-map}
use Rattle.command_words.specs.Parsed.{parsed_from, has_dashes}
use Rattle.command_words.proofs.Final.{without_dashes, dashes_no_form, refused_is}
use Rattle.command_words.proofs.Forms.{parsed_right}
use Rattle.command_words.proofs.words.command_of.Goals as goal

pub returns-then-has_dashes : goal.returns-then-has_dashes
returns-then-has_dashes c =
    let words = map string_bytes c.args.words.now in
    let there : has_dashes words ≡ true = sym (list_any-map (λ (word : List ℕ). bytes_eq word (codes "--")) string_bytes c.args.words.now) ∙ sym c.if-has_dashes.ensures in
    dashes_no_form words there

pub returns-in-Ok : goal.returns-in-Ok
returns-in-Ok c =
    let words = map string_bytes c.args.words.now in
    let none : has_dashes words ≡ false = sym (list_any-map (λ (word : List ℕ). bytes_eq word (codes "--")) string_bytes c.args.words.now) ∙ sym c.if-has_dashes.ensures in
    c.parsed.ensures ∙ ap parsed_from c.in-Ok.ensures.rows ∙ parsed_right words (without_dashes words none) c.in-Ok.ensures.kinds

pub returns-in-Err : goal.returns-in-Err
returns-in-Err c =
    refused_is (map string_bytes c.args.words.now) c.in-Err.error c.refused.result c.refused.ensures.none c.refused.ensures.cause c.in-Err.ensures.kinds
