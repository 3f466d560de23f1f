use Rattle.std.proofs.Common.{◌≡◌, ◌∙◌, ◌++◌, ◌+◌, ℕ, List, OnOk, string_bytes, ap, subst}
use Rattle.std.specs.Prelude.{codes}
use Rattle.journal_picture.specs.Scale.{step_of}
use Rattle.journal_picture.specs.SvgPicture.{base_swatches, legend_at, marks_note, site_swatches, words_svg}
use Rattle.journal_picture.specs.Views.{view_of}
use Rattle.journal_picture.proofs.Written.{on_four}
use Rattle.journal_picture.proofs.svg.write_legend.Goals as goal

pub returns : goal.returns
returns c =
    let v = view_of c.args.drawing.now in
    let y = c.rows_bottom-y.result + 8 in
    let old = string_bytes c.args.text.now in
    let first = string_bytes c.push_str.new.self in
    let second = string_bytes c.write_base_swatches.new.text in
    let third = string_bytes c.write_site_swatches.new.text in
    let fourth = string_bytes c.write_words.new.text in
    let note : c.marks_note.result.now ≡ marks_note (step_of v) = c.marks_note.ensures ∙ ap (λ (s : ℕ). marks_note s) c.step.ensures.same in
    let words : OnOk c.write_words.result (fourth ≡ third ++ words_svg (y + 32) (y + 50) (marks_note (step_of v))) =
    subst (λ (t : List ℕ). OnOk c.write_words.result (fourth ≡ third ++ words_svg (y + 32) (y + 50) t)) note c.write_words.ensures in
    let whole : OnOk c.write_words.result (fourth ≡ old ++ legend_at v y) =
    on_four c.write_words.result old first second third fourth (codes "<g text-anchor='start'>\n") (base_swatches y) (site_swatches y)
    (words_svg (y + 32) (y + 50) (marks_note (step_of v))) c.in_ok-push_str.ensures.bytes c.in_ok-write_base_swatches.ensures
    c.in_ok-write_site_swatches.ensures words in
    subst (λ (b : ℕ). OnOk c.write_words.result (fourth ≡ old ++ legend_at v (b + 8))) c.rows_bottom-y.ensures.same whole
