-- The outcome of a run of an accepted program.
use Rattle.std.specs.Prelude.{◌≡◌, ◌≤◌, length}
use Rattle.array_tree.specs.Trees.{program_of}
use Rattle.array_meaning.specs.Entered.{entered_of}
use Rattle.array_meaning.specs.Work.{final_store}
use Rattle.transfer_table.specs.Plan.{most_entries}
use Rattle.transfer_table.specs.Journal.{IsComplete}
use Rattle.disjoint_check.specs.AcceptedProgram.{AcceptedProgram}
use Rattle.hart_loop.specs.Journals.{entries_in}
use Rattle.hart_loop.specs.declared.outcome.Outcome.{Outcome}

-- The store is that of the one-thread meaning. The journal is complete for the plan and the sites that this meaning enters, and
-- has at most 65,535 entries.
pub record IsOutcome (a : AcceptedProgram) (outcome : Outcome) : Type 0 where
  pub store : outcome.store ≡ final_store (program_of a.program)
  pub journal : IsComplete a.plan (entered_of (program_of a.program)) (entries_in outcome.journal)
  pub short : length (entries_in outcome.journal) ≤ most_entries
