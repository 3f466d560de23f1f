-- The end of a board, for all its seats.
use Rattle.std.specs.Prelude.{◌≡◌, ◌≢◌, ℕ, ◌+◌, ◌≤◌, ◌<◌, false, List, [], length, slice_index_or}
use mathlib.Core.Option.{some}
use lib.ListN.{get_elem?}
use Rattle.atomic_table.specs.Table.{State}
use Rattle.atomic_table.specs.Seated.{TableId}
use Rattle.open_table.specs.declared.table.Size.{Size}
use Rattle.open_table.specs.declared.table.Entry.{Entry}
use Rattle.open_table.specs.Table.{TableState, Reaches, made_by}
use Rattle.open_rule.specs.declared.view.View.{View}
use Rattle.open_rule.specs.Rule.{Stands}
use Rattle.open_board.specs.Views.{owner_of}
use Rattle.open_board.specs.declared.seat.OpenSeat.{OpenSeat}
use Rattle.open_board.specs.declared.ending.NotEnded.{NotEnded}
use Rattle.open_board.specs.declared.ending.NotEnded.TheVariants.{WrongCount, OutOfOrder, InSite}

-- The view of the seat at index h of the list.
abbrev pub view_at : List OpenSeat → ℕ → OpenSeat → View
view_at qs h d = (slice_index_or qs h d).seat.me.0

-- The seats are one for each hart of the board, in the order of the harts.
pub record AreAll (z : TableId) (p : Size) (qs : List OpenSeat) : Type 0 where
  pub count : length qs ≡ p.harts
  pub boards : (h : ℕ) (d : OpenSeat) → h < length qs → (slice_index_or qs h d).seat.table_id ≡ z
  pub sizes : (h : ℕ) (d : OpenSeat) → h < length qs → (view_at qs h d).size ≡ p
  pub harts : (h : ℕ) (d : OpenSeat) → h < length qs → (view_at qs h d).hart ≡ h

-- Each hart is at the base, so it is the home of no site.
abbrev pub AreAtBase : List OpenSeat → Type 0
AreAtBase qs = (h : ℕ) (d : OpenSeat) → h < length qs → (view_at qs h d).stack ≡ []

-- The whole run of a board: a list of entries that the table admits from the start. The part of each hart in it is what that
-- hart's seat recorded. It leads to a state in which each hart is at the base and no site is live.
pub record HasFinished (p : Size) (qs : List OpenSeat) : Type 0 where
  pub journal : List Entry
  pub table : TableState
  pub legal : Reaches p journal table
  pub each : (h : ℕ) (d : OpenSeat) → h < p.harts → made_by h journal ≡ (view_at qs h d).mine
  pub at_base : (h : ℕ) → h < p.harts → table.stacks h ≡ []
  pub no_site : (x : ℕ) → (table.rows x).live ≡ false

-- The seat at index n is hart n's, and that hart is at the base.
abbrev pub IsHomeAgain : List OpenSeat → ℕ → Type 0
IsHomeAgain qs n = (d : OpenSeat) → ((view_at qs n d).hart ≡ n) × ((view_at qs n d).stack ≡ [])

-- Why the board can't end: the count of seats isn't the count of harts, or the first index whose seat is another hart's, or
-- whose hart is in a site.
abbrev pub CantEnd : Size → List OpenSeat → NotEnded → Type 0
CantEnd p qs WrongCount = length qs ≢ p.harts
CantEnd p qs (OutOfOrder place hart) = (length qs ≡ p.harts) × (place < p.harts) × ((n : ℕ) → n < place → IsHomeAgain qs n)
    × ((d : OpenSeat) → (view_at qs place d).hart ≡ hart) × (hart ≢ place)
CantEnd p qs (InSite hart site) = (length qs ≡ p.harts) × (hart < p.harts) × ((n : ℕ) → n < hart → IsHomeAgain qs n)
    × ((d : OpenSeat) → (view_at qs hart d).hart ≡ hart) × ((d : OpenSeat) → owner_of (view_at qs hart d) ≡ site) × (site ≢ 0)

-- ---- between the steps of an end

-- The seats of the harts from 1 on.
abbrev pub AreOthers : TableId → Size → List OpenSeat → Type 0
AreOthers z p qs = (i : ℕ) (d : OpenSeat) → i < length qs
    → ((slice_index_or qs i d).seat.table_id ≡ z) × ((view_at qs i d).size ≡ p)
    × ((view_at qs i d).hart ≡ i + 1) × ((view_at qs i d).stack ≡ [])

-- The invariant holds of the words and the views at their end, and the seat's view is among these.
abbrev pub HasLast : Size → OpenSeat → Type 0
HasLast p q = (s : State (Unit {0}) View) × Stands p s × (get_elem? s.views q.seat.id ≡ some q.seat.me.0)

-- The view has joined hart h, which had this view.
pub record HasOne (v : View) (h : ℕ) (w : View) : Type 0 where
  pub at : ℕ
  pub one : get_elem? v.ended at ≡ some record { hart = h; mine = w.mine }

-- The view has joined each of the seats from the n-th on.
abbrev pub HasFrom : View → List OpenSeat → ℕ → Type 0
HasFrom v qs n = (i : ℕ) (d : OpenSeat) → n ≤ i → i < length qs → HasOne v (i + 1) (view_at qs i d)
