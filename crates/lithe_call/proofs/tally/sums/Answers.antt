use Rattle.std.proofs.Common.{◌≡◌, ◌∙◌, ◌++◌, Bool, List, length, take, arith, ap, subst}
use Rattle.transfer_table.specs.Plan.{Plan}
use Rattle.transfer_table.specs.Journal.{IsComplete}
use Rattle.journal_text.specs.JournalText.{journal_text}
use Rattle.array_tree.specs.Trees.{program_of}
use Rattle.array_meaning.specs.Work.{final_store}
use Rattle.array_meaning.specs.Entered.{entered_of}
use Rattle.array_meaning.proofs.InsideLemmas.{sized_in_range}
use Rattle.array_eval.specs.ArrayText.{array_text}
use Rattle.hart_loop.specs.Journals.{entries_in}
use Rattle.lithe_call.specs.Programs.{table_plan}
use Rattle.lithe_call.proofs.Runs.{final_cells, printed_plan}
use Rattle.lithe_call.proofs.Tallying.{kept_cells, enough_cells}
use Rattle.lithe_call.proofs.tally.sums.Goals as goal

pub count_cells-cells-requires : goal.count_cells-cells-requires
count_cells-cells-requires g c = sized_in_range (program_of c.args.program.now) c.requires.meaning.ranges

pub first_cells-requires : goal.first_cells-requires
first_cells-requires g c =
    let enough = enough_cells (program_of c.args.program.now) (program_of c.args.accepted.now.program) c.in_ok-outcome.outcome.store c.requires.kept c.in_ok-outcome.ensures.store in
    omega (arith, c.count_cells-cells.ensures, enough)

pub write_arrays-requires-clause-sized : goal.write_arrays-requires-clause-sized
write_arrays-requires-clause-sized g c = sized_in_range (program_of c.args.program.now) c.requires.meaning.ranges

pub write_arrays-requires-clause-whole : goal.write_arrays-requires-clause-whole
write_arrays-requires-clause-whole g c =
    let program = program_of c.args.program.now in
    ap length (c.in_ok-store.ensures ∙ ap (λ n. take n c.in_ok-outcome.outcome.store) c.count_cells-cells.ensures
    ∙ kept_cells program (program_of c.args.accepted.now.program) c.in_ok-outcome.outcome.store c.requires.kept c.in_ok-outcome.ensures.store)
    ∙ final_cells program

pub returns : goal.returns
returns g c =
    let program = program_of c.args.program.now in
    let rows = program_of c.args.accepted.now.program in
    let journal = entries_in c.in_ok-outcome.outcome.journal in
    let harts = c.args.accepted.now.plan.harts in
    let printed : c.args.accepted.now.plan ≡ table_plan program harts = printed_plan c.args.accepted.now.plan program (c.plan.ensures.kept.parents ∙ c.requires.kept.plan) in
    let plan : c.plan.result.now ≡ table_plan program harts = c.plan.ensures.same ∙ printed in
    let lines = c.deref.ensures.value ∙ c.in_ok-entries.ensures ∙ ap (journal_text c.plan.result.now) c.entries.ensures ∙ ap (λ p. journal_text p journal) plan in
    let store = c.in_ok-store.ensures ∙ ap (λ n. take n c.in_ok-outcome.outcome.store) c.count_cells-cells.ensures
    ∙ kept_cells program rows c.in_ok-outcome.outcome.store c.requires.kept c.in_ok-outcome.ensures.store in
    let text = c.in_ok-text.ensures ∙ ap (array_text program) store in
    record {
      journal = journal;
      complete = subst (λ (p : Plan). IsComplete p (entered_of program) journal) printed (subst (λ (meant : List Bool). IsComplete c.args.accepted.now.plan meant journal) c.requires.kept.entered c.in_ok-outcome.ensures.journal);
      whole = c.in_ok-extend_from_slice.ensures.items ∙ ap (λ text. text ++ c.deref.result.now) text
          ∙ ap (λ rest. array_text program (final_store program) ++ rest) lines;
    }
