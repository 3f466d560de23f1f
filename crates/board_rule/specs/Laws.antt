-- The effect of a step on the invariant and on the journal.
use Rattle.std.specs.Prelude.{◌≡◌, ℕ, [], ◌∷◌, ◌++◌, slice_set, Ok}
use Rattle.atomic_table.specs.Table.{State}
use Rattle.transfer_table.specs.Plan.{Plan}
use Rattle.transfer_table.specs.Table.{admit_of}
use Rattle.transfer_table.specs.declared.entry.Entry.{Entry}
use Rattle.board_rule.specs.declared.layout.Layout.{Layout}
use Rattle.board_rule.specs.declared.view.View.{View}
use Rattle.board_rule.specs.Rule.{Stands}

-- A state of the board: its words and the views of its seats.
abbrev pub St : Type 0
St = State (Unit {0}) View

-- The state after a step that sets word i to n and the view of the seat to w.
abbrev pub after_step : St → ℕ → ℕ → ℕ → View → St
after_step s i n id w = record {
  words = slice_set s.words i n;
  homes = s.homes;
  views = slice_set s.views id w;
}

-- The invariant holds after the step, and the journal and the state of the table are unchanged.
abbrev pub Keeps : (lay : Layout) (p : Plan) (s : St) → Stands lay p s → St → Type 0
Keeps lay p s k s' = (k' : Stands lay p s') × (k'.journal ≡ k.journal) × (k'.table ≡ k.table)

-- The invariant holds after the step, the journal has one entry more, and the table admits that entry.
abbrev pub Appends : (lay : Layout) (p : Plan) (s : St) → Stands lay p s → Entry → St → Type 0
Appends lay p s k e s' = (k' : Stands lay p s') × (k'.journal ≡ k.journal ++ e ∷ [])
    × (admit_of p k.table e ≡ Ok k'.table)
