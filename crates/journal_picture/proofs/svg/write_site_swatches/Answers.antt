use Rattle.std.proofs.Common.{◌≡◌, ◌∙◌, ◌++◌, List, ℕ, OnOk, string_bytes, ap}
use Rattle.std.specs.Prelude.{codes, true, false}
use Rattle.journal_picture.specs.SvgBars.{site_fill}
use Rattle.journal_picture.specs.SvgMarks.{red}
use Rattle.journal_picture.specs.SvgPicture.{swatch_svg}
use Rattle.journal_picture.proofs.Written.{on_three}
use Rattle.journal_picture.proofs.svg.write_site_swatches.Goals as goal

pub returns : goal.returns
returns c =
    let y = c.args.y in
    let old = string_bytes c.args.text.now in
    let first = string_bytes c.write_swatch.new.text in
    let second = string_bytes c.write_swatch-2.new.text in
    let third = string_bytes c.write_swatch-3.new.text in
    let plain : first ≡ old ++ swatch_svg 336 y (site_fill false 1) (codes "a site") =
    c.in_ok-write_swatch.ensures ∙ ap (λ (f : List ℕ). old ++ swatch_svg 336 y f (codes "a site")) c.site_fill.ensures in
    let phased : second ≡ first ++ swatch_svg 416 y (site_fill true 1) (codes "a site of phases") =
    c.in_ok-write_swatch-2.ensures ∙ ap (λ (f : List ℕ). first ++ swatch_svg 416 y f (codes "a site of phases")) c.site_fill-2.ensures in
    let missed : OnOk c.write_swatch-3.result (third ≡ second ++ swatch_svg 556 y red (codes "a missed wish")) = c.write_swatch-3.ensures in
    on_three c.write_swatch-3.result old first second third (swatch_svg 336 y (site_fill false 1) (codes "a site"))
    (swatch_svg 416 y (site_fill true 1) (codes "a site of phases")) (swatch_svg 556 y red (codes "a missed wish")) plain phased missed
