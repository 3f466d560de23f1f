use Rattle.std.proofs.Common.{◌≡◌, ◌∙◌, ◌++◌, length, ap, sym, subst}
use Rattle.transfer_table.specs.Plan.{Plan}
use Rattle.transfer_table.specs.Journal.{IsComplete}
use Rattle.journal_text.specs.JournalText.{journal_text}
use Rattle.array_tree.specs.declared.tree.Program.{Program}
use Rattle.array_tree.specs.Trees.{program_of, declarations_of}
use Rattle.array_meaning.specs.Stores.{arrays_of, cells_of, AreSized}
use Rattle.array_meaning.specs.Work.{final_store}
use Rattle.array_meaning.specs.Entered.{entered_of}
use Rattle.array_meaning.proofs.InsideLemmas.{sized_in_range}
use Rattle.array_eval.specs.ArrayText.{array_text}
use Rattle.hart_loop.specs.Journals.{entries_in}
use Rattle.lithe_call.specs.Programs.{table_plan}
use Rattle.lithe_call.proofs.Runs.{final_cells, printed_plan}
use Rattle.lithe_call.proofs.run.run_text.Goals as goal

pub write_arrays-requires-clause-sized : goal.write_arrays-requires-clause-sized
write_arrays-requires-clause-sized c =
    subst (λ (p : Program). AreSized (arrays_of (declarations_of p.arrays))) (sym c.program.ensures.same)
    (sized_in_range (program_of c.args.accepted.now.program) c.program.ensures.kept.accepted.ranges)

pub write_arrays-requires-clause-whole : goal.write_arrays-requires-clause-whole
write_arrays-requires-clause-whole c =
    ap length c.requires.store ∙ final_cells (program_of c.args.accepted.now.program)
    ∙ ap (λ (p : Program). cells_of (arrays_of (declarations_of p.arrays))) (sym c.program.ensures.same)

pub returns : goal.returns
returns c =
    let program = program_of c.args.accepted.now.program in
    let journal = entries_in c.args.outcome.now.journal in
    let harts = c.args.accepted.now.plan.harts in
    let printed : c.args.accepted.now.plan ≡ table_plan program harts = printed_plan c.args.accepted.now.plan program c.program.ensures.kept.parents in
    let plan : c.plan.result.now ≡ table_plan program harts = c.plan.ensures.same ∙ printed in
    let lines = c.deref.ensures.value ∙ c.in_ok-entries.ensures ∙ ap (journal_text c.plan.result.now) c.entries.ensures ∙ ap (λ p. journal_text p journal) plan in
    let text = c.in_ok-text.ensures ∙ ap (λ (p : Program). array_text (program_of p) c.args.outcome.now.store) c.program.ensures.same
    ∙ ap (array_text program) c.requires.store in
    record {
      journal = journal;
      complete = subst (λ (p : Plan). IsComplete p (entered_of program) journal) printed c.requires.journal;
      whole = c.in_ok-extend_from_slice.ensures.items ∙ ap (λ text. text ++ c.deref.result.now) text
          ∙ ap (λ rest. array_text program (final_store program) ++ rest) lines;
    }
