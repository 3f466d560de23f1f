use Rattle.std.proofs.Common.{◌∙◌, ap, sym, replicate, true, []}
use Rattle.std.proofs.lemmas.Result.{IfOk-weaker}
use Rattle.array_tree.specs.Trees.{program_of}
use Rattle.array_meaning.specs.Stores.{arrays_of}
use Rattle.array_meaning.specs.Work.{first_store}
use Rattle.entered_laws.proofs.Entering.{sequence_true}
use Rattle.entered_sites.proofs.walk.entered.Goals as goal

-- A program without a construct under an `if` enters all its sites.
pub returns-then-has_no_choice : goal.returns-then-has_no_choice
returns-then-has_no_choice c =
    let program = program_of c.args.program.now in
    let arrays = arrays_of program.arrays in
    IfOk-weaker c.vec.result _ _
    (λ list same. same (λ _ e. e) ∙ ap (λ n. replicate n true) (c.from.ensures ∙ c.requires.sites)
    ∙ sym (sequence_true arrays program.body [] (first_store arrays) (sym c.has_no_choice.ensures ∙ c.if-has_no_choice.true)))
    c.vec.ensures.items_if_clones_equal
