-- Texts that are journals.
use Rattle.std.specs.Prelude.{◌≡◌, ℕ, ◌≤◌, List, length, All}
use Rattle.transfer_table.specs.Entry.{hart_of, site_of, count_of}
use Rattle.transfer_table.specs.Plan.{Plan, most_entries}
use Rattle.transfer_table.specs.declared.entry.Entry.{Entry}
use Rattle.journal_text.specs.JournalText.{journal_text}
use Rattle.journal_text.specs.Reading.{most_hart, most_site, most_count}

-- The entry's numbers fit the types of a hart, a site and a count; stated since lists in contracts have no bound of their own.
pub record IsEntry (entry : Entry) : Type 0 where
  pub hart : hart_of entry ≤ most_hart
  pub site : site_of entry ≤ most_site
  pub count : count_of entry ≤ most_count

-- The text is the journal of these entries, of which there are no more than a legal list may have.
pub record IsJournalOf (plan : Plan) (list : List Entry) (text : List ℕ) : Type 0 where
  pub few : length list ≤ most_entries
  pub entries : All IsEntry list
  pub spelled : text ≡ journal_text plan list
