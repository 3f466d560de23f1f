use Rattle.std.proofs.Common.{◌≡◌, ◌∙◌, ◌++◌, [], Bool, true, OnOk, string_bytes, ap, subst, sym, rules}
use Rattle.std.specs.Prelude.{if◌then◌else◌}
use Rattle.transfer_table.specs.Plan.{Plan}
use Rattle.journal_picture.specs.declared.strip.Figures.{Figures}
use Rattle.journal_picture.specs.Scale.{is_shown, row_of}
use Rattle.journal_picture.specs.Strip.{figures_of}
use Rattle.journal_picture.specs.SvgMarks.{numbers_svg, red_svg}
use Rattle.journal_picture.specs.Views.{view_of}
use Rattle.journal_picture.proofs.Written.{on_more}
use Rattle.journal_picture.proofs.marks.write_figures.Goals as goal

pub returns : goal.returns
returns c =
    let v = view_of c.args.drawing.now in
    let t = c.args.board.now.state in
    let k = c.args.k in
    let f = c.figures_of-figures.result in
    let r = c.write_numbers.result in
    let old = string_bytes c.args.text.now in
    let new = string_bytes c.write_numbers.new.text in
    let figures : f ≡ figures_of v.plan t = c.figures_of-figures.ensures ∙ ap (λ (q : Plan). figures_of q t) c.requires.plan in
    let shown : is_shown v (row_of v k) ≡ true = search rules in
    let both = on_more r old (string_bytes c.write_red.new.text) new (red_svg v k f) (numbers_svg v k f) c.in_ok-write_red.ensures c.write_numbers.ensures in
    let same = subst (λ (g : Figures). OnOk r (new ≡ old ++ (red_svg v k g ++ numbers_svg v k g))) figures both in
    subst (λ (b : Bool). OnOk r (new ≡ old ++ (if b then red_svg v k (figures_of v.plan t) ++ numbers_svg v k (figures_of v.plan t) else []))) (sym shown) same
