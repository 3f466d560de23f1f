-- The words of a board at its end.
use Rattle.std.specs.Prelude.{◌≡◌, ℕ, ◌≤◌, ◌<◌, true, List, length, slice_index, slice_get, Some}
use mathlib.Core.Option.{some}
use lib.ListN.{get_elem?}
use Rattle.transfer_table.specs.Plan.{Plan, IsSite, room}
use Rattle.transfer_table.specs.Table.{TableState, row}
use Rattle.transfer_table.specs.Journal.{Reaches}
use Rattle.transfer_table.specs.Entry.{made_by}
use Rattle.transfer_table.specs.Laws.{IsEntryOf}
use Rattle.transfer_table.specs.declared.entry.Stage.TheVariants.{Gone}
use Rattle.transfer_table.specs.declared.entry.Entry.{Entry}
use Rattle.hart_port.specs.PortView.{is_in}
use Rattle.board_rule.specs.declared.view.View.{View}
use Rattle.board_rule.specs.declared.entries.Ended.{Ended}
use Rattle.board_rule.specs.declared.layout.Layout.{Layout}
use Rattle.board_rule.specs.Layouts.{entries_of}
use Rattle.board_rule.specs.Encodings.{journal_word, spelled}
use Rattle.board_rule.specs.Sums.{total, ended_as}
use Rattle.board_rule.specs.Places.{AreAt}

-- The words encode this journal, each entry at its index.
pub record Spells (lay : Layout) (p : Plan) (ws : List ℕ) (es : List Entry) : Type 0 where
  pub count : entries_of lay (slice_index ws 0) ≡ length es
  pub few : length es ≤ room p
  pub places : (i : ℕ) (e : Entry) → slice_get es i ≡ Some e
      → (journal_word p ws i ≡ spelled e) × IsEntryOf p e

-- All harts but hart 0 were joined into the view.
abbrev pub AllEnded : Plan → View → Type 0
AllEnded p v = (h : ℕ) → 1 ≤ h → h < p.harts → 1 ≤ total (ended_as h) v.ended

-- The list is legal, and has the view's entries as hart 0's and the entries of each ended hart as that hart's. A site that the
-- view has seen gone is gone.
pub record IsJournal (p : Plan) (v : View) (es : List Entry) : Type 0 where
  pub table : TableState
  pub legal : Reaches p es table
  pub first : (made_by 0 es ≡ v.mine) × AreAt es v.mine v.places
  pub others : (k : ℕ) (e : Ended) → get_elem? v.ended k ≡ some e
      → (made_by e.hart es ≡ e.mine) × AreAt es e.mine e.places
  pub gone : (x : ℕ) → is_in v.marks.gone x ≡ true → IsSite p x × ((row table x).stage ≡ Gone)
