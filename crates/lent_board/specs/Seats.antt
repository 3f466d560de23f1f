-- All seats of a board: as they are made, and as they are returned.
use Rattle.std.specs.Prelude.{◌≡◌, ◌↔◌, Bool, ℕ, ◌+◌, ◌≤◌, ◌<◌, true, if◌then◌else◌, ◌==◌, List, length, slice_index_or}
use mathlib.Core.Option.{some}
use lib.ListN.{get_elem?}
use Rattle.atomic_table.specs.Seated.{TableId}
use Rattle.transfer_table.specs.Plan.{Plan, IsSite, parent}
use Rattle.transfer_table.specs.Table.{TableState, row}
use Rattle.transfer_table.specs.Journal.{Reaches, IsComplete, is_meant}
use Rattle.transfer_table.specs.Entry.{made_by, registers}
use Rattle.transfer_table.specs.declared.entry.Stage.TheVariants.{Gone}
use Rattle.transfer_table.specs.declared.entry.Entry.{Entry}
use Rattle.hart_port.specs.PortView.{is_in}
use Rattle.board_rule.specs.declared.view.View.{View}
use Rattle.board_rule.specs.Places.{AreAt}
use Rattle.board_rule.specs.Views.{fresh_view}
use Rattle.lent_board.specs.declared.seat.HartSeat.{HartSeat}

-- The seat of hart h, of the words z and without a transfer, while n seats are made.
pub record IsNewSeat (z : TableId) (p : Plan) (n h : ℕ) (q : HartSeat) : Type 0 where
  pub board : q.seat.table_id ≡ z
  pub view : q.seat.me.0 ≡ record (fresh_view p h) { made = if h == 0 then n else 0 }

-- The seat at index h is hart h's, as it is made.
abbrev pub AreSeats : TableId → Plan → List HartSeat → Type 0
AreSeats z p qs = (h : ℕ) (d : HartSeat) → h < length qs
    → IsNewSeat z p (length qs) h (slice_index_or qs h d)

-- The seats are all seats of the words z, in order.
pub record AreAll (z : TableId) (p : Plan) (qs : List HartSeat) : Type 0 where
  pub count : length qs ≡ p.harts
  pub boards : (h : ℕ) (d : HartSeat) → h < length qs → (slice_index_or qs h d).seat.table_id ≡ z
  pub plans : (h : ℕ) (d : HartSeat) → h < length qs → (slice_index_or qs h d).seat.me.0.plan ≡ p
  pub harts : (h : ℕ) (d : HartSeat) → h < length qs → (slice_index_or qs h d).seat.me.0.hart ≡ h

-- Some seat has seen the site gone.
abbrev pub SawGone : List HartSeat → ℕ → Type 0
SawGone qs x = (h : ℕ) × (h < length qs)
    × ((d : HartSeat) → is_in (slice_index_or qs h d).seat.me.0.marks.gone x ≡ true)

-- Some seat made Register of the site.
abbrev pub MadeRegister : List HartSeat → ℕ → Type 0
MadeRegister qs x = (h : ℕ) × (h < length qs)
    × ((d : HartSeat) → 1 ≤ registers x (slice_index_or qs h d).seat.me.0.mine)

-- The journal of the board: a legal list with each hart's entries, each at the index that its seat drew for it. A site that a
-- seat has seen gone is gone at the end. The journal is complete for the meant sites if each top site was seen gone, and the
-- seats registered exactly the meant sites.
pub record IsJournalOf (p : Plan) (qs : List HartSeat) (es : List Entry) : Type 0 where
  pub table : TableState
  pub legal : Reaches p es table
  pub each : (h : ℕ) (d : HartSeat) → h < p.harts
      → made_by h es ≡ (slice_index_or qs h d).seat.me.0.mine
  pub placed : (h : ℕ) (d : HartSeat) → h < p.harts
      → AreAt es (slice_index_or qs h d).seat.me.0.mine (slice_index_or qs h d).seat.me.0.places
  pub gone : (x : ℕ) → SawGone qs x → IsSite p x × ((row table x).stage ≡ Gone)
  pub complete : (meant : List Bool) → ((x : ℕ) → IsSite p x → parent p x ≡ 0 → SawGone qs x)
      → ((x : ℕ) → IsSite p x → (is_meant meant x ≡ true) ↔ MadeRegister qs x) → IsComplete p meant es

-- ---- between the steps of a close

-- The seats of the harts from 1 on.
abbrev pub AreOthers : TableId → Plan → List HartSeat → Type 0
AreOthers z p qs = (i : ℕ) (d : HartSeat) → i < length qs
    → ((slice_index_or qs i d).seat.table_id ≡ z) × ((slice_index_or qs i d).seat.me.0.plan ≡ p)
    × ((slice_index_or qs i d).seat.me.0.hart ≡ i + 1)

-- The view has joined hart h, which had this view.
pub record HasOne (v : View) (h : ℕ) (w : View) : Type 0 where
  pub at : ℕ
  pub one : get_elem? v.ended at ≡ some record { hart = h; mine = w.mine; places = w.places }
  pub gone : (x : ℕ) → is_in w.marks.gone x ≡ true → is_in v.marks.gone x ≡ true

-- The view has joined each of the seats from the n-th on.
abbrev pub HasFrom : View → List HartSeat → ℕ → Type 0
HasFrom v qs n = (i : ℕ) (d : HartSeat) → n ≤ i → i < length qs
    → HasOne v (i + 1) (slice_index_or qs i d).seat.me.0
