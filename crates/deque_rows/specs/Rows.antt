-- A hart's access to deques as lists: its own deques by level, and all deques by index.
use Rattle.std.specs.Prelude.{◌≡◌, ℕ, zero, suc, ◌+◌, ◌-◌, ◌*◌, ◌/◌, ◌%◌, ◌<◌, ◌≤◌, true, false, List, [], ◌++◌, length, map, slice_index_or, slice_index}
use Rattle.std.specs.declared.alloc.Global.{Global}
use Rattle.atomic_blocks.specs.Lent.{RowsId}
use Rattle.crossbeam_deque.specs.Handles.{view, worker_view, worker_deque, stealer_deque}
use Rattle.deque_rows.specs.declared.account.Log.{Log}
use Rattle.deque_rows.specs.declared.ends.HomeEnd.{HomeEnd}
use Rattle.deque_rows.specs.declared.ends.StealingEnd.{StealingEnd}
use Rattle.deque_rows.specs.declared.hart.HartRows.{HartRows}
use Rattle.deque_rows.specs.Account.{blank, idle, IsSettled}

-- The level has a deque: levels 1 to 3 have one.
abbrev pub IsLevel : ℕ → Type 0
IsLevel level = (1 ≤ level) × (level ≤ 3)

-- The name of a deque.
abbrev pub RowName : Type 0
RowName = RowsId × Global

-- The index of a hart's deque of a level. All deques are numbered consecutively, three for each hart.
abbrev pub place : ℕ → ℕ → ℕ
place hart level = 3 * hart + (level - 1)

-- The logs of this hart's own ends, by level.
abbrev pub home_logs : HartRows → List Log
home_logs r = map (λ (h : HomeEnd). worker_view h.worker) r.own.items

-- The logs of the hart's stealing ends, by the deque's index.
abbrev pub pass_logs : HartRows → List Log
pass_logs r = map (λ (s : StealingEnd). view s.pass) r.ends.items

-- The counters of empty looks, by the deque's index.
abbrev pub bares : HartRows → List ℕ
bares r = r.bare.items

-- The number of indices that each of the hart's own deques takes in all, by level.
abbrev pub rooms : HartRows → List ℕ
rooms r = map (λ (h : HomeEnd). h.made) r.own.items

-- The number of indices that the hart's own deque of this level takes in all.
abbrev pub row_room : HartRows → ℕ → ℕ
row_room r level = slice_index (rooms r) (level - 1)

-- The log of the hart's own deque of this level: what the hart pushed, popped and kept.
abbrev pub home_log : HartRows → ℕ → Log
home_log r level = slice_index_or (home_logs r) (level - 1) idle

-- The log of the hart's stealing end of this deque: what the hart stole.
abbrev pub pass_log : HartRows → ℕ → ℕ → Log
pass_log r hart level = slice_index_or (pass_logs r) (place hart level) idle

-- The counter of empty looks at this deque.
abbrev pub bare : HartRows → ℕ → ℕ → ℕ
bare r hart level = slice_index (bares r) (place hart level)

-- What no call changes: the hart, the number of harts whose deques the hart reaches, the names of the deques, the hart's parts in
-- them, and the number of indices that the hart's own deques take.
pub record Identity : Type 0 where
  pub hart : ℕ
  pub harts : ℕ
  pub home_names : List RowName
  pub home_shares : List (ℕ × List ℕ)
  pub rooms : List ℕ
  pub pass_names : List RowName
  pub pass_parts : List ℕ

-- The parts of a home's log, and what the home's own pass stole.
abbrev pub share : Log → ℕ × List ℕ
share v = (v.parts, v.stolen)

-- The names of a hart's own deques.
abbrev pub home_names : HartRows → List RowName
home_names r = map (λ (h : HomeEnd). worker_deque h.worker) r.own.items

-- The names of all deques, by the hart's stealing ends.
abbrev pub pass_names : HartRows → List RowName
pass_names r = map (λ (s : StealingEnd). stealer_deque s.stealer) r.ends.items

-- The identity of a hart's access to deques.
abbrev pub identity : HartRows → Identity
identity r = record {
  hart = r.hart;
  harts = r.harts;
  home_names = home_names r;
  home_shares = map share (home_logs r);
  rooms = rooms r;
  pass_names = pass_names r;
  pass_parts = map (λ (v : Log). v.parts) (pass_logs r);
}

-- The value of the r-th of all deques, in lists of three values for each hart.
abbrev pub row_at : {X : Type 0} → X → List (List X) → ℕ → X
row_at d homes r = slice_index_or (slice_index_or homes (r / 3) []) (r % 3) d

-- The home's log of the r-th deque.
abbrev pub owner_log : List HartRows → ℕ → Log
owner_log rows r = row_at idle (map home_logs rows) r

-- These are all values of one call of `rows`, in order. Each hart reaches the deques of all harts and has one part in each deque;
-- the home has the remaining parts.
pub record AreAll (all : List Identity) : Type 0 where
  pub few : length all ≤ 16
  pub places : (h : ℕ) (d : Identity) → h < length all → (slice_index_or all h d).hart ≡ h
  pub reaches : (h : ℕ) (d : Identity) → h < length all → (slice_index_or all h d).harts ≡ length all
  pub shares : (r : ℕ) → r < 3 * length all
      → row_at (0, []) (map (λ (k : Identity). k.home_shares) all) r ≡ (64 - length all, [])
  pub passes : (h r : ℕ) (d : Identity) (n : RowName) → h < length all → r < 3 * length all
      → slice_index_or (slice_index_or all h d).pass_names r n
      ≡ row_at n (map (λ (k : Identity). k.home_names) all) r
  pub parts : (h r : ℕ) (d : Identity) → h < length all → r < 3 * length all
      → slice_index (slice_index_or all h d).pass_parts r ≡ 1

-- What the first g harts stole from the r-th deque, by the logs of their stealing ends.
abbrev pub stolen_by : List (List Log) → ℕ → ℕ → List ℕ
stolen_by lines r zero = []
stolen_by lines r (suc g) =
    stolen_by lines r g ++ (slice_index_or (slice_index_or lines g []) r idle).stolen

-- Each deque of all these harts is settled with what the harts stole.
abbrev pub AreSettled : List HartRows → Type 0
AreSettled rows = (r : ℕ) → r < 3 * length rows
    → IsSettled (owner_log rows r) (stolen_by (map pass_logs rows) r (length rows))

-- No call was made on the deques of so many harts through this hart's access.
pub record AreNew (harts : ℕ) (r : HartRows) : Type 0 where
  pub own : (level : ℕ) → IsLevel level → home_log r level ≡ blank (64 - harts) true
  pub passes : (hart level : ℕ) → hart < harts → IsLevel level
      → pass_log r hart level ≡ blank 1 false
  pub bares : (hart level : ℕ) → hart < harts → IsLevel level → bare r hart level ≡ 0

-- Each of the hart's own deques takes so many indices in all.
abbrev pub HasRooms : ℕ → HartRows → Type 0
HasRooms room r = (level : ℕ) → IsLevel level → row_room r level ≡ room
