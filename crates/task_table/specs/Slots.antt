-- A table of tasks. A task's word is 0 while the task waits, 1 while a hart has it, 2 once its outcome is in its slot, and 3
-- once the outcome was collected.
use Rattle.std.specs.Prelude.{◌≡◌, ◌≢◌, ◌<◌, ◌≤◌, ◌⊎◌, ℕ, List, ◌∷◌, Result, IfOk, IfErr, slice_index, length}
use mathlib.Core.Option.{Option, some}
use lib.ListN.{get_elem?}
use Rattle.atomic_table.specs.Table.{State, Me, rest}
use Rattle.std.specs.declared.snapshot.Snapshot.{Snapshot}
use Rattle.std.specs.declared.vec.Vec.{Vec}
use Rattle.task_table.specs.declared.slot.TaskSlot.{TaskSlot}
use Rattle.task_table.specs.declared.slot.TaskSlot.TheVariants.{Waits, Ended}
use Rattle.task_table.specs.declared.slot.SeatView.{SeatView}

-- A task may end with this outcome: an output that it gives, an error of its own, or an allocation failure.
abbrev pub Ends : {T O E : Type 0} → (T → O → Type 0) → (T → E → Type 0) → (E → Type 0) → T → Result O E → Type 0
Ends gives fails memory task outcome =
    IfOk outcome (λ output. gives task output) × IfErr outcome (λ error. fails task error ⊎ memory error)

-- The list has this element.
abbrev pub Has : {A : Type 0} → List A → A → Type 0
Has xs x = (k : ℕ) × (get_elem? xs k ≡ some x)

-- The tasks that a key names.
abbrev pub list_of : {T A : Type 0} → Snapshot (Vec T A) → List T
list_of key = key.value.items

module _ {K R : Type 0} where
  -- Some seat has this in the list that its view shows.
  abbrev pub SomeHas : {A : Type 0} → (SeatView K R → List A) → List (SeatView K R) → A → Type 0
  SomeHas shown views x = (id : ℕ) × (v : SeatView K R) × (get_elem? views id ≡ some v) × Has (shown v) x

  -- The tasks that a seat has claimed, the outcomes that it has stored, and those that it has collected, each with its index.
  abbrev pub took_of : SeatView K R → List ℕ
  took_of v = v.took

  abbrev pub gave_of : SeatView K R → List (ℕ × R)
  gave_of v = v.gave

  abbrev pub got_of : SeatView K R → List (ℕ × R)
  got_of v = v.got

  -- What a seat knows after it has read n in the word of the task at i.
  abbrev pub looked : SeatView K R → ℕ → ℕ → SeatView K R
  looked v i n = record v { place = i; found = n }

  -- What it knows after it has claimed the task at i, stored its outcome, or collected its outcome.
  abbrev pub took_one : SeatView K R → ℕ → SeatView K R
  took_one v i = record v { place = i; found = 0; took = i ∷ v.took }

  abbrev pub gave_one : SeatView K R → ℕ → R → SeatView K R
  gave_one v i outcome = record v { gave = (i, outcome) ∷ v.gave }

  abbrev pub got_one : SeatView K R → ℕ → R → SeatView K R
  got_one v i outcome = record v { place = i; found = 2; got = (i, outcome) ∷ v.got }

  -- A view belongs to these tasks. A task that was seen to be claimed is claimed for good, a task whose outcome the seat stored
  -- has ended for good, and what the seat collected is what some seat stored.
  abbrev pub IsSeatView : K → List ℕ → List (SeatView K R) → SeatView K R → Type 0
  IsSeatView key words views v =
      (v.tasks ≡ key)
      × (v.found ≢ 0 → slice_index words v.place ≢ 0)
      × ((given : ℕ × R) → Has v.gave given → 2 ≤ slice_index words given.0)
      × ((taken : ℕ × R) → Has v.got taken → SomeHas gave_of views taken)

module _ {T R K : Type 0} where
  -- The position of the task at i, whose word is n: a waiting task is in its slot and ready to run, and no task was lost. If the
  -- word is 1, some seat has claimed the task. If it is 2, the slot has an outcome of the task, which some seat stored. If it is more, some seat
  -- has collected the outcome.
  abbrev pub StandsAt : (T → Type 0) → (T → R → Type 0) → List (SeatView K R) → ℕ → T → ℕ → Option (Option (TaskSlot T R)) → Type 0
  StandsAt ready ends views i task n home =
      (n ≡ 0 → (home ≡ some (some (Waits task))) × ready task)
      × (n ≡ 1 → SomeHas took_of views i)
      × (n ≡ 2 → (outcome : R) × (home ≡ some (some (Ended outcome))) × ends task outcome × SomeHas gave_of views (i, outcome))
      × (2 < n → (outcome : R) × SomeHas got_of views (i, outcome))

  -- The invariant: the slots are those of these tasks, and each seat's view belongs to them.
  abbrev pub TasksStand : (T → Type 0) → (T → R → Type 0) → K → List T → State (TaskSlot T R) (SeatView K R) → Type 0
  TasksStand ready ends key tasks s =
      (length s.words ≡ length tasks) × (length s.homes ≡ length tasks)
      × ((id : ℕ) (v : SeatView K R) → get_elem? s.views id ≡ some v → IsSeatView key s.words s.views v)
      × ((i : ℕ) (task : T) → get_elem? tasks i ≡ some task → StandsAt ready ends s.views i task (slice_index s.words i) (get_elem? s.homes i))

  -- A claim of the task at i: if its word was 0, the seat has the task, which is ready to run.
  abbrev pub Claims : (T → Type 0) → List T → Me (TaskSlot T R) (SeatView K R) → ℕ → ℕ → Me (TaskSlot T R) (SeatView K R) → Type 0
  Claims ready tasks me i found after =
      ((after.0.tasks ≡ me.0.tasks) × (after.0.gave ≡ me.0.gave) × (after.0.got ≡ me.0.got))
      × (found ≡ 0 → (task : T) × (get_elem? tasks i ≡ some task) × ready task × (after.1 ≡ (i, Waits task) ∷ me.1) × (after.0 ≡ took_one me.0 i))
      × (found ≢ 0 → (after.1 ≡ me.1) × (after.0 ≡ looked me.0 i found))

  -- An outcome is stored: the seat had it in place of the slot at i.
  abbrev pub Gives : Me (TaskSlot T R) (SeatView K R) → ℕ → Me (TaskSlot T R) (SeatView K R) → Type 0
  Gives me i after =
      (outcome : R) → me.1 ≡ (i, Ended outcome) ∷ rest me.1 → after ≡ (gave_one me.0 i outcome, rest me.1)

  -- A try to collect the outcome of the task at i: if its word was 2, the seat has the outcome.
  abbrev pub Collects : (T → R → Type 0) → List T → Me (TaskSlot T R) (SeatView K R) → ℕ → ℕ → Me (TaskSlot T R) (SeatView K R) → Type 0
  Collects ends tasks me i found after =
      ((after.0.tasks ≡ me.0.tasks) × (after.0.took ≡ me.0.took) × (after.0.gave ≡ me.0.gave))
      × (found ≡ 2 → (task : T) × (outcome : R) × (get_elem? tasks i ≡ some task) × ends task outcome
      × (after.1 ≡ (i, Ended outcome) ∷ me.1) × (after.0 ≡ got_one me.0 i outcome))
      × (found ≢ 2 → (after.1 ≡ me.1) × (after.0 ≡ looked me.0 i found))
