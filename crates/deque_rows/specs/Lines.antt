-- The deques of all harts during the steps that make and settle them.
use Rattle.std.specs.Prelude.{◌≡◌, ℕ, ◌-◌, ◌<◌, ◌*◌, ◌/◌, ◌%◌, true, false, List, [], length, replicate, slice_index_or, slice_set}
use Rattle.crossbeam_deque.specs.Handles.{view, stealer_deque}
use Rattle.deque_rows.specs.declared.account.Log.{Log}
use Rattle.deque_rows.specs.declared.ends.StealingEnd.{StealingEnd}
use Rattle.deque_rows.specs.declared.hart.HartRows.{HartRows}
use Rattle.deque_rows.specs.Account.{blank}
use Rattle.deque_rows.specs.Rows.{RowName, home_logs, bares, rooms, row_at}

-- The log of a stealing end.
abbrev pub end_log : StealingEnd → Log
end_log s = view s.pass

-- The name of a stealing end's deque.
abbrev pub end_name : StealingEnd → RowName
end_name s = stealer_deque s.stealer

-- The lists with x for the r-th of all deques. The other deques' values are unchanged.
abbrev pub put : {X : Type 0} → List (List X) → ℕ → X → List (List X)
put homes r x = slice_set homes (r / 3) (slice_set (slice_index_or homes (r / 3) []) (r % 3) x)

-- What a hart has besides its own ends' logs and names.
pub record Standing : Type 0 where
  pub hart : ℕ
  pub harts : ℕ
  pub ends : List StealingEnd
  pub bares : List ℕ
  pub rooms : List ℕ

-- What this hart has besides its own ends' logs and names.
abbrev pub standing : HartRows → Standing
standing r = record {
  hart = r.hart;
  harts = r.harts;
  ends = r.ends.items;
  bares = bares r;
  rooms = rooms r;
}

-- The log with one part fewer.
abbrev pub less : Log → Log
less v = record v { parts = v.parts - 1 }

-- The deques of a hart that has no stealing end, among so many harts.
abbrev pub IsHome : ℕ → ℕ → HartRows → Type 0
IsHome harts hart r = (home_logs r ≡ replicate 3 (blank 64 true))
    × (standing r ≡ record {
      hart = hart;
      harts = 0;
      ends = [];
      bares = replicate (3 * harts) 0;
      rooms = rooms r;
    })

-- These are new stealing ends of all deques, in order.
abbrev pub IsLine : List (List RowName) → List StealingEnd → Type 0
IsLine names ends = (r : ℕ) (d : StealingEnd) (n : RowName) → r < length ends
    → (end_log (slice_index_or ends r d) ≡ blank 1 false)
    × (end_name (slice_index_or ends r d) ≡ row_at n names r)

-- The deques of a hart while the stealing ends are made: the harts below `first` have their stealing ends.
pub record IsAt (harts first : ℕ) (names : List (List RowName)) (hart : ℕ)
    (r : HartRows) : Type 0 where
  pub place : r.hart ≡ hart
  pub bares : r.bare.items ≡ replicate (3 * harts) 0
  pub reaches : hart < first → r.harts ≡ harts
  pub line : hart < first → IsLine names r.ends.items

-- The log with so many parts, and with these stolen indices.
abbrev pub gathered : Log → ℕ → List ℕ → Log
gathered v parts stolen = record v { parts = parts; stolen = stolen }
