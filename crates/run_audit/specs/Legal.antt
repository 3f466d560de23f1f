-- Legal outputs.
use Rattle.std.specs.Prelude.{◌≡◌, ◌↔◌, ℕ, Bool, List, ◌++◌, length, Ok}
use Rattle.transfer_table.specs.Plan.{Plan, IsPlan, site_count}
use Rattle.transfer_table.specs.Journal.{IsComplete}
use Rattle.transfer_table.specs.declared.entry.Entry.{Entry}
use Rattle.journal_text.specs.JournalText.{journal_text}
use Rattle.array_tree.specs.Trees.{ProgramTree}
use Rattle.array_meaning.specs.Stores.{Store}
use Rattle.array_eval.specs.ArrayText.{array_text}
use Rattle.run_audit.specs.Audit.{audit_of}
use Rattle.run_audit.specs.declared.verdict.Verdict.TheVariants as verdict

-- The output is these array lines, followed by the text of a list of so many entries that is complete for the plan and the
-- sites that are meant to be entered.
pub record IsLegalOutput (plan : Plan) (meant : List Bool) (arrays : List ℕ) (entries : ℕ)
    (output : List ℕ) : Type 0 where
  pub list : List Entry
  pub complete : IsComplete plan meant list
  pub many : length list ≡ entries
  pub whole : output ≡ arrays ++ journal_text plan list

-- An audit finds so many entries legal exactly for such an output.
abbrev pub LegalOutputsAreFound : Type 0
LegalOutputsAreFound = (plan : Plan) → IsPlan plan
    → (meant : List Bool) → length meant ≡ site_count plan
    → (program : ProgramTree) (store : Store) (output : List ℕ) (entries : ℕ)
    → (audit_of plan meant (array_text program store) output ≡ Ok (verdict.Legal entries))
    ↔ IsLegalOutput plan meant (array_text program store) entries output
