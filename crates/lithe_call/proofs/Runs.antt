-- The store after a run, and the text written for it.
use Rattle.std.proofs.Common.{◌≡◌, ◌∙◌, ℕ, List, length, [], ap, ap₂, subst, pos, Result, Ok, Err, IfOk}
use Rattle.std.proofs.lemmas.List.{length-replicate}
use Rattle.transfer_table.specs.Plan.{Plan}
use Rattle.transfer_table.specs.Journal.{IsComplete}
use Rattle.transfer_table.specs.declared.entry.Entry.{Entry}
use Rattle.array_tree.specs.Trees.{ProgramTree}
use Rattle.array_meaning.specs.Stores.{Store, arrays_of, cells_of}
use Rattle.array_meaning.specs.Steps.{writes_of}
use Rattle.array_meaning.specs.Work.{final_store, first_store, sequence_work}
use Rattle.array_meaning.specs.Entered.{entered_of}
use Rattle.array_meaning.proofs.StepLemmas.{length_after}
use Rattle.lithe_call.specs.Summary.{summary_text}
use Rattle.lithe_call.specs.Programs.{table_plan}
use Rattle.lithe_call.specs.Output.{IsSummary}

-- A program's final store has the cells of its arrays.
pub final_cells : (program : ProgramTree) → length (final_store program) ≡ cells_of (arrays_of program.arrays)
final_cells program =
    let arrays = arrays_of program.arrays in
    length_after (writes_of arrays (sequence_work program.body []) (first_store arrays)) (first_store arrays) ∙ length-replicate (cells_of arrays) (pos 0)

-- A plan with the parents of the program's plan.
pub printed_plan : (plan : Plan) (program : ProgramTree) → plan.parents ≡ (table_plan program plan.harts).parents → plan ≡ table_plan program plan.harts
printed_plan plan program same = let with_parents : List ℕ → Plan = λ parents. record { harts = plan.harts; parents = parents } in ap with_parents same

pub summarised : {T F : Type 0} (r : Result T F) (view : T → List ℕ) (program : ProgramTree) (harts : ℕ) (plan : Plan) (store : Store) (journal : List Entry)
    → plan ≡ table_plan program harts → store ≡ final_store program → IsComplete plan (entered_of program) journal
    → IfOk r (λ x. view x ≡ summary_text plan store journal) → IfOk r (λ x. IsSummary program harts (view x))
summarised (Ok x) view program harts plan store journal same final complete h = record {
  journal = journal;
  complete = subst (λ (p : Plan). IsComplete p (entered_of program) journal) same complete;
  whole = h ∙ ap₂ (λ (p : Plan) (s : Store). summary_text p s journal) same final;
}
summarised (Err f) view program harts plan store journal same final complete h = tt
