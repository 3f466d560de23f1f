-- The results of the base's calls.
use Rattle.std.specs.Prelude.{◌≡◌, ℕ, List, [], ◌∷◌, Bool, true}
use Rattle.sched_api.specs.Wishes.{WishList, no_wishes, wishes_after}
use Rattle.sched_api.specs.declared.hearing.Told.{Told}
use Rattle.sched_api.specs.declared.scheduler.Next.{Next}
use Rattle.sched_api.specs.declared.scheduler.Next.TheVariants.{Run, Lend, Nothing}

-- The view that contracts have of the base: its wishes, and whether it is shut.
pub record BaseState : Type 0 where
  pub wishes : WishList
  pub is_shut : Bool

-- The base after `shut`: it has no wish, and no room for any.
abbrev pub shut_base : BaseState
shut_base = record { wishes = no_wishes; is_shut = true }

-- The base with these sites as its wishes.
abbrev pub with_sites : BaseState → List ℕ → BaseState
with_sites b sites = record b { wishes = record b.wishes { sites = sites } }

-- `enter` lends the hart to the child of the oldest wish, and removes that wish. It returns `Nothing` exactly if there is no
-- wish.
abbrev pub LendsOldest : {C : Type 0} → BaseState → Next C → BaseState → Type 0
LendsOldest before (Run c) after = ⊥
LendsOldest before (Lend site) after = before ≡ with_sites after (site ∷ after.wishes.sites)
LendsOldest before Nothing after = (before.wishes.sites ≡ []) × (after ≡ before)

-- A callback changes the base's wishes, and nothing else.
abbrev pub HearsOf : BaseState → Told → BaseState → Type 0
HearsOf before told after = after ≡ record before { wishes = wishes_after told before.wishes }
