use Rattle.std.proofs.Common.{◌∙◌, ◌++◌, ℕ, Option, string_bytes, ap}
use Rattle.std.specs.Prelude.{codes}
use Rattle.transfer_table.specs.Table.{row}
use Rattle.transfer_table.specs.declared.entry.Stage.{Stage}
use Rattle.journal_picture.specs.TextPicture.{site_start, fate_text, visit_cells, wish_cells}
use Rattle.journal_picture.specs.Views.{view_of}
use Rattle.journal_picture.specs.declared.visits.Visits.{Visits}
use Rattle.journal_picture.specs.Visits.{visits_at}
use Rattle.journal_picture.proofs.Written.{on_five, on_pushed}
use Rattle.journal_picture.proofs.tree.write_site.Goals as goal

pub returns : goal.returns
returns c =
    let v = view_of c.args.drawing.now in
    let s = c.args.site in
    let found = row v.state s in
    let old = string_bytes c.args.text.now in
    let first = string_bytes c.write_wishes.new.text in
    let second = string_bytes c.write_visits.new.text in
    let third = string_bytes c.write_start.new.text in
    let fourth = string_bytes c.write_fate.new.text in
    let fifth = string_bytes c.push_str.new.self in
    let visits = c.in_ok-write_visits.ensures ∙ ap (λ (x : Visits). first ++ visit_cells x) c.visits_at.ensures in
    let fate = c.in_ok-write_fate.ensures ∙ ap (λ (x : Stage). third ++ fate_text x c.home.result) c.stage.ensures.same
    ∙ ap (λ (x : Option ℕ). third ++ fate_text found.stage x) c.home.ensures.same in
    on_five c.push_str.result old first second third fourth fifth (wish_cells found) (visit_cells (visits_at v.visits s)) (site_start v s c.args.shape)
    (fate_text found.stage found.home) (codes "\n") c.in_ok-write_wishes.ensures visits c.in_ok-write_start.ensures fate
    (on_pushed c.push_str.result fifth fourth (codes "\n") c.push_str.ensures.bytes)
