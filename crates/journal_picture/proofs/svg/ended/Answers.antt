use Rattle.std.proofs.Common.{◌≡◌, ◌++◌}
use Rattle.std.specs.Prelude.{codes}
use Rattle.journal_picture.specs.SvgPicture.{end_svg, escaped}
use Rattle.journal_picture.proofs.Written.{more}
use Rattle.journal_picture.proofs.svg.ended.Goals as goal

pub returns : goal.returns
unfolding end_svg
returns c =
    let old = c.args.text.items in
    let first = c.add_escaped.new.whole.items in
    let second = c.extend_from_slice.new.self.items in
    let verdict : first ≡ old ++ escaped c.args.verdict.now = c.in_ok-add_escaped.ensures in
    let end : second ≡ first ++ codes "</text>\n</svg>\n" = c.in_ok-extend_from_slice.ensures.items in
    more old first second (escaped c.args.verdict.now) (codes "</text>\n</svg>\n") verdict end
