use Rattle.std.proofs.Common.{◌≡◌, ◌++◌, ◌+◌, ◌<◌, ◌≤◌, length, drop, get_or, string_bytes, rules, ◌∙◌, ap, subst, sym}
use Rattle.std.proofs.lemmas.List.{drop_all}
use Rattle.std.proofs.lemmas.Result.{on_ok_weaker}
use Rattle.transfer_table.specs.Plan.{Plan}
use Rattle.transfer_table.specs.Table.{TableState, admit_of, first_state}
use Rattle.transfer_table.specs.declared.entry.Entry.TheVariants.{Register}
use Rattle.journal_picture.specs.Drawn.{or_same}
use Rattle.journal_picture.specs.SvgMarks.{figures_svg, strip_svg}
use Rattle.journal_picture.specs.Views.{view_of}
use Rattle.journal_picture.proofs.Turns.{strip_more}
use Rattle.journal_picture.proofs.Written.{turn}
use Rattle.journal_picture.proofs.marks.write_strip.Goals as goal

-- The figures of this place are written, and the table goes on by its entry.
pub loop-k-preserved : goal.loop-k-preserved
loop-k-preserved c =
    let v = view_of c.args.drawing.now in
    let p = v.plan in
    let es = v.list in
    let k = c.loop-k.k in
    let t = c.loop-k.board.state in
    let next = or_same t (admit_of p t (get_or es k (Register 0 0))) in
    let within : k < length es = search rules in
    let kept : c.admit_and_follow-wishing.new.board.plan ≡ p = search rules in
    let moved : c.admit_and_follow-wishing.new.board.state ≡ next =
    ap (λ b. b.state) c.admit_and_follow-wishing.ensures.board ∙ ap (λ (q : Plan). or_same t (admit_of q t (get_or es k (Register 0 0)))) c.loop-k.invariant.0 in (
      kept,
      subst (λ (u : TableState). string_bytes c.write_figures.new.text ++ strip_svg v u (k + 1) (drop (k + 1) es) ≡ string_bytes c.args.text.now ++ strip_svg v (first_state p) 0 es) (sym moved)
          (turn (string_bytes c.loop-k.text) (string_bytes c.write_figures.new.text) (figures_svg v t k) (strip_svg v t k (drop k es))
          (strip_svg v next (k + 1) (drop (k + 1) es)) _ c.loop-k.invariant.1 (strip_more v t k es (Register 0 0) within) c.in_ok-write_figures.ensures),
      c.admit_and_follow-wishing.ensures.within,
    )

-- Behind the last entry the figures of the last place are written.
pub returns : goal.returns
returns c =
    let v = view_of c.args.drawing.now in
    let es = v.list in
    let k = c.loop-k.k in
    let t = c.loop-k.board.state in
    let text = string_bytes c.loop-k.text in
    let stop : k ≡ length es = search rules in
    let past : length es ≤ k = search rules in
    let last : strip_svg v t k (drop k es) ≡ figures_svg v t (length es) = ap (strip_svg v t k) (drop_all k es past) ∙ ap (figures_svg v t) stop in
    on_ok_weaker c.write_figures-2.result
    (λ (wrote : string_bytes c.write_figures-2.new.text ≡ text ++ figures_svg v t (length es)). wrote ∙ ap (λ x. text ++ x) (sym last) ∙ c.loop-k.invariant.1)
    c.write_figures-2.ensures
