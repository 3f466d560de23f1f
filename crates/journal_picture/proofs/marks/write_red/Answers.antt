use Rattle.std.proofs.Common.{◌≡◌, ◌∙◌, ◌++◌, ℕ, List, [], Bool, true, OnOk, string_bytes, ap, subst, sym, rules}
use Rattle.std.specs.Prelude.{if◌then◌else◌}
use Rattle.journal_picture.specs.Scale.{place_x, row_of, step_of, strip_y}
use Rattle.journal_picture.specs.SvgBars.{rect_text}
use Rattle.journal_picture.specs.SvgMarks.{figures_words, red}
use Rattle.journal_picture.specs.Views.{view_of}
use Rattle.journal_picture.proofs.marks.write_red.Goals as goal

pub returns : goal.returns
returns c =
    let v = view_of c.args.drawing.now in
    let k = c.args.k in
    let f = c.args.figures in
    let r = c.write_rect.result in
    let old = string_bytes c.args.text.now in
    let new = string_bytes c.write_rect.new.text in
    let missed : f.missed ≡ true = search rules in
    let title : c.as_str.result.now ≡ figures_words k f = c.as_str.ensures.value ∙ c.in_ok-title.ensures in
    let y : c.strip_y-y.result ≡ strip_y v (row_of v k) = c.strip_y-y.ensures.same ∙ ap (λ (row : ℕ). strip_y v row) c.row_of.ensures.same in
    let rect = ap (λ (x : ℕ). rect_text x c.strip_y-y.result c.step.result red c.as_str.result.now) c.place_x-x.ensures.same
    ∙ ap (λ (x : ℕ). rect_text (place_x v k) x c.step.result red c.as_str.result.now) y
    ∙ ap (λ (x : ℕ). rect_text (place_x v k) (strip_y v (row_of v k)) x red c.as_str.result.now) c.step.ensures.same
    ∙ ap (λ (x : List ℕ). rect_text (place_x v k) (strip_y v (row_of v k)) (step_of v) red x) title in
    let wrote = subst (λ (x : List ℕ). OnOk r (new ≡ old ++ x)) rect c.write_rect.ensures in
    subst (λ (b : Bool). OnOk r (new ≡ old ++ (if b then rect_text (place_x v k) (strip_y v (row_of v k)) (step_of v) red (figures_words k f) else []))) (sym missed) wrote
