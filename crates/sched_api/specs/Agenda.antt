-- What a scheduler has for harts: contexts that are ready, contexts that aren't begun, and the wishes of its children.
use Rattle.std.specs.Prelude.{◌≡◌, ◌⊎◌, ℕ, ◌<◌, ◌≤◌, List, [], ◌∷◌, ◌++◌, length, Option, Some, None, Result, Ok, Err}
use Rattle.std.specs.Borrow.{Bor}
use Rattle.sched_api.specs.Wishes.{WishList}
use Rattle.sched_api.specs.declared.scheduler.Next.{Next}
use Rattle.sched_api.specs.declared.scheduler.Next.TheVariants.{Run, Lend, Nothing}

-- An agenda. At most `room` contexts are ready at a time.
pub record AgendaParts (C : Type 0) : Type 0 where
  pub ready : List C
  pub room : ℕ
  pub unbegun : List C
  pub wishes : WishList

-- The first ready context runs.
pub record TakesReady {C : Type 0} (before : AgendaParts C) (c : C)
    (after : AgendaParts C) : Type 0 where
  pub first : before.ready ≡ c ∷ after.ready
  pub rest : after ≡ record before { ready = after.ready }

-- If no context is ready, the first one that isn't begun runs.
pub record TakesUnbegun {C : Type 0} (before : AgendaParts C) (c : C)
    (after : AgendaParts C) : Type 0 where
  pub none_ready : before.ready ≡ []
  pub first : before.unbegun ≡ c ∷ after.unbegun
  pub rest : after ≡ record before { unbegun = after.unbegun }

-- If there is no context, the hart is lent to the child of the oldest wish.
pub record TakesWish {C : Type 0} (before : AgendaParts C) (site : ℕ)
    (after : AgendaParts C) : Type 0 where
  pub none_ready : before.ready ≡ []
  pub all_begun : before.unbegun ≡ []
  pub oldest : before.wishes.sites ≡ site ∷ after.wishes.sites
  pub rest : after ≡ record before { wishes = record before.wishes { sites = after.wishes.sites } }

-- The agenda has no context and no wish.
pub record IsIdle {C : Type 0} (agenda : AgendaParts C) : Type 0 where
  pub none_ready : agenda.ready ≡ []
  pub all_begun : agenda.unbegun ≡ []
  pub no_wish : agenda.wishes.sites ≡ []

-- A relation of an agenda, a hart's next action, and the agenda afterwards.
abbrev pub TakesNext : {C : Type 0} → AgendaParts C → Next C → AgendaParts C → Type 0
TakesNext before (Run c) after = TakesReady before c after ⊎ TakesUnbegun before c after
TakesNext before (Lend site) after = TakesWish before site after
TakesNext before Nothing after = IsIdle before × (after ≡ before)

-- A ready context is put last. It is returned exactly if the room is filled.
abbrev pub PutsReady : {C : Type 0} → AgendaParts C → C → Result (Unit {0}) C
    → AgendaParts C → Type 0
PutsReady before c (Ok done) after =
    (length before.ready < before.room) × (after ≡ record before { ready = before.ready ++ c ∷ [] })
PutsReady before c (Err back) after =
    (before.room ≤ length before.ready) × (back ≡ c) × (after ≡ before)

-- The first ready context is taken, or there is none.
abbrev pub GivesReady : {C : Type 0} → AgendaParts C → Option C → AgendaParts C → Type 0
GivesReady before (Some c) after = TakesReady before c after
GivesReady before None after = (before.ready ≡ []) × (after ≡ before)

-- The last context that isn't begun, or there is none.
abbrev pub IsLastUnbegun : {C : Type 0} → AgendaParts C → Option (Bor C) → Type 0
IsLastUnbegun {C} agenda (Some c) = (rest : List C) × (agenda.unbegun ≡ rest ++ c.now ∷ [])
IsLastUnbegun agenda None = agenda.unbegun ≡ []

-- The last context that isn't begun is taken, or there is none.
abbrev pub GivesLast : {C : Type 0} → AgendaParts C → Option C → AgendaParts C → Type 0
GivesLast before (Some c) after =
    (before.unbegun ≡ after.unbegun ++ c ∷ []) × (after ≡ record before { unbegun = after.unbegun })
GivesLast before None after = (before.unbegun ≡ []) × (after ≡ before)

-- The first context that isn't begun is taken, or there is none.
abbrev pub GivesUnbegun : {C : Type 0} → AgendaParts C → Option C → AgendaParts C → Type 0
GivesUnbegun before (Some c) after =
    (before.unbegun ≡ c ∷ after.unbegun) × (after ≡ record before { unbegun = after.unbegun })
GivesUnbegun before None after = (before.unbegun ≡ []) × (after ≡ before)
