use Rattle.std.proofs.Common.{◌≡◌, ◌∙◌, ◌∷◌, ℕ, List, [], IfOk, string_bytes, ap, subst, rules}
use Rattle.std.specs.Prelude.{codes}
use Rattle.std.specs.Fmt.{decimal}
use Rattle.std.specs.List.{concat}
use Rattle.journal_picture.specs.SvgBars.{about_text, shape_of, since_text, until_text}
use Rattle.journal_picture.specs.TextPicture.{site_name}
use Rattle.journal_picture.proofs.bars.stay_title.Goals as goal

-- A title of these parts.
title : ℕ → List ℕ → List ℕ → List ℕ → List ℕ → List ℕ
title h name about since until = concat (codes "h" ∷ decimal h ∷ codes " in " ∷ name ∷ about ∷ since ∷ until ∷ [])

pub returns : goal.returns
unfolding title
returns c =
    let stay = c.args.stay in
    let h = stay.hart in
    let what = about_text (shape_of c.args.drawing.now.shapes.now stay.site) h in
    let name : c.as_str-name.result.now ≡ site_name stay.site = c.as_str-name.ensures.value ∙ c.in_ok-name.ensures in
    let about : c.as_str-about.result.now ≡ what = search rules in
    let since : c.as_str-since.result.now ≡ since_text stay.first = c.as_str-since.ensures.value ∙ c.in_ok-since.ensures in
    let until : c.as_str-until.result.now ≡ until_text stay.last = c.as_str-until.ensures.value ∙ c.in_ok-until.ensures in
    let words : IfOk c.format.result (λ t. string_bytes t ≡ title h c.as_str-name.result.now c.as_str-about.result.now c.as_str-since.result.now c.as_str-until.result.now) = search rules in
    let parts = ap (λ (x : List ℕ). title h x c.as_str-about.result.now c.as_str-since.result.now c.as_str-until.result.now) name
    ∙ ap (λ (x : List ℕ). title h (site_name stay.site) x c.as_str-since.result.now c.as_str-until.result.now) about
    ∙ ap (λ (x : List ℕ). title h (site_name stay.site) what x c.as_str-until.result.now) since
    ∙ ap (λ (x : List ℕ). title h (site_name stay.site) what (since_text stay.first) x) until in
    subst (λ (x : List ℕ). IfOk c.format.result (λ t. string_bytes t ≡ x)) parts words
