-- The wishes for harts that a scheduler hasn't met.
use Rattle.std.specs.Prelude.{ℕ, ◌-◌, ◌==◌, min, not, List, [], ◌++◌, length, replicate}
use Rattle.std.specs.List.{filter}
use Rattle.sched_api.specs.declared.hearing.Told.{Told}
use Rattle.sched_api.specs.declared.hearing.Call.{Call}
use Rattle.sched_api.specs.declared.hearing.Call.TheVariants.{Registered, Unregistered, Requested, Yielded, Blocked}

-- The children's sites, one for each wish, the oldest first, and the number of wishes for which there is room.
pub record WishList : Type 0 where
  pub sites : List ℕ
  pub room : ℕ

-- The list with `count` wishes of the child appended, as far as there is room.
abbrev pub with_wishes : WishList → ℕ → ℕ → WishList
with_wishes w child count =
    record w { sites = w.sites ++ replicate (min count (w.room - length w.sites)) child }

-- The list without the child's wishes.
abbrev pub without_child : WishList → ℕ → WishList
without_child w child = record w { sites = filter (λ s. not (s == child)) w.sites }

-- The empty list, with no room.
abbrev pub no_wishes : WishList
no_wishes = record { sites = []; room = 0 }

-- The wishes after a callback: a request adds wishes, an unregister removes the child's, and the others change none.
abbrev pub wishes_after : Told → WishList → WishList
wishes_after told w = wishes_by told.call told.child told.count w
  where
    wishes_by : Call → ℕ → ℕ → WishList → WishList
    wishes_by Registered child count w = w
    wishes_by Unregistered child count w = without_child w child
    wishes_by Requested child count w = with_wishes w child count
    wishes_by Yielded child count w = w
    wishes_by Blocked child count w = w
