use Rattle.std.proofs.Common.{◌≡◌, ◌∙◌, ℕ, Bool, List, length, ap, sym, arith}
use Rattle.std.proofs.lemmas.List.{length-map}
use Rattle.transfer_table.specs.declared.entry.Entry.{Entry}
use Rattle.array_tree.specs.Trees.{program_of, declaration_of}
use Rattle.array_meaning.specs.Entered.{entered_of}
use Rattle.journal_picture.specs.declared.shape.Shape.{Shape}
use Rattle.picture_call.specs.Picture.{entries_behind, pictured}
use Rattle.picture_call.specs.Seen.{picture_seen}
use Rattle.picture_call.specs.Shapes.{shapes_of}
use Rattle.picture_call.proofs.Reading.{same_answer}
use Rattle.picture_call.proofs.Turns.{shape_count}
use Rattle.picture_call.proofs.picture.picture_by.Goals as goal

pub pictured-requires-clause-shapes : goal.pictured-requires-clause-shapes
pictured-requires-clause-shapes c =
    let program = program_of c.args.program.now in
    let shapes : c.deref.result.now ≡ shapes_of c.args.teams program = c.deref.ensures.value ∙ c.in_ok-shapes.ensures in
    ap length shapes ∙ shape_count c.args.teams program ∙ sym (ap length c.requires.parents)

pub returns : goal.returns
returns c =
    let program = program_of c.args.program.now in
    let plan = c.args.plan.now in
    let form = c.args.form in
    let verdict = c.args.verdict in
    let output = c.args.output.now in
    let meant = c.args.entered.now in
    let kept = c.args.program.now.arrays.declarations.ok in
    let counted : c.len-arrays.result ≡ length c.args.program.now.arrays.declarations.items = omega (arith, kept, c.len-arrays.ensures) in
    let many : c.len-arrays.result ≡ length program.arrays =
    counted ∙ sym (length-map c.args.program.now.arrays.declarations.items declaration_of) in
    let list : c.as_slice.result.now ≡ entries_behind plan (length program.arrays) output =
    c.as_slice.ensures ∙ c.in_ok-list.ensures.same ∙ ap (λ (n : ℕ). entries_behind plan n output) many in
    let shapes : c.deref.result.now ≡ shapes_of c.args.teams program = c.deref.ensures.value ∙ c.in_ok-shapes.ensures in
    let whole = ap (λ (m : List Bool). pictured form plan m c.deref.result.now verdict c.as_slice.result.now) c.requires.entered
    ∙ ap (λ (s : List Shape). pictured form plan (entered_of program) s verdict c.as_slice.result.now) shapes
    ∙ ap (λ (l : List Entry). pictured form plan (entered_of program) (shapes_of c.args.teams program) verdict l) list in
    same_answer c.pictured.result picture_seen (pictured form plan meant c.deref.result.now verdict c.as_slice.result.now)
    (pictured form plan (entered_of program) (shapes_of c.args.teams program) verdict (entries_behind plan (length program.arrays) output)) whole c.pictured.ensures
