-- Definitions for private contracts and proofs only: the slots of a pipeline with their contents.
use Rattle.std.specs.Prelude.{◌≡◌, ◌↔◌, ℕ, zero, suc, ◌+◌, ◌-◌, ◌*◌, ◌%◌, ◌<◌, ◌≤◌, List, [], ◌∷◌, ◌++◌, true, map, length, slice_get, slice_index_or, get_or, Some}
use Rattle.array_tree.specs.Trees.{statement_of}
use Rattle.array_meaning.specs.Stores.{Store, Write}
use Rattle.array_jobs.specs.Jobs.{JobParts, job_of}
use Rattle.array_jobs.specs.PieceParts.{piece_of_job}
use Rattle.step_eval.specs.declared.shape.Kind.TheVariants as kind
use Rattle.step_eval.specs.Nests.{NestedParts, NestedTree, nested_of, IsFitNest}
use Rattle.step_eval.specs.Shapes.{kind_of}
use Rattle.pipe_sched.specs.declared.slot.Slot.{Slot}
use Rattle.pipe_sched.specs.declared.slot.Slot.TheVariants as slot
use Rattle.pipe_sched.specs.Slots.{Mark, Waiting, Barred, Out, Filled, Lost, IsAt, IsClear, is_begun, is_settled, is_failed, phases_in, members_in}
use Rattle.phase_order.specs.Pipes.{written_before}
use Rattle.pipe_sched.specs.Pipes.{IsJobAt}

-- The mark of a slot: its state without the contents.
abbrev pub mark_of : Slot → Mark
mark_of slot.Waiting = Waiting
mark_of slot.Barred = Barred
mark_of (slot.Out job) = Out
mark_of (slot.Filled job written) = Filled
mark_of (slot.Lost job) = Lost

-- The slot's piece was handed out with this job.
abbrev pub HasJob : Slot → JobParts → Type 0
HasJob slot.Waiting job = ⊥
HasJob slot.Barred job = ⊥
HasJob (slot.Out own) job = job_of own ≡ job_of job
HasJob (slot.Filled own written) job = job_of own ≡ job_of job
HasJob (slot.Lost own) job = job_of own ≡ job_of job

-- A failure bars a slot that waits, and loses one that is out.
abbrev pub failed_slot : Slot → Slot
failed_slot slot.Waiting = slot.Barred
failed_slot slot.Barred = slot.Barred
failed_slot (slot.Out job) = slot.Lost job
failed_slot (slot.Filled job written) = slot.Filled job written
failed_slot (slot.Lost job) = slot.Lost job

-- A right slot: if its piece was handed out, its job is the job of member j in phase k, and it is filled with the writes of
-- this job.
abbrev pub IsRight : NestedTree → ℕ → ℕ → Slot → Type 0
IsRight nested j k slot.Waiting = Unit {0}
IsRight nested j k slot.Barred = Unit {0}
IsRight nested j k (slot.Out job) = IsJobAt nested j k (job_of job)
IsRight nested j k (slot.Filled job written) =
    IsJobAt nested j k (job_of job) × (written.pairs ≡ piece_of_job (job_of job))
IsRight nested j k (slot.Lost job) = IsJobAt nested j k (job_of job)

-- All pieces that come before a piece that was handed out are filled.
abbrev pub AreInOrder : ℕ → List Mark → Type 0
AreInOrder phases marks = (j k : ℕ) (mark : Mark) → IsAt phases marks j k mark → is_begun mark ≡ true → IsClear phases marks j k

-- The invariant of a construct and the slots of its pieces.
pub record IsKept (nested : NestedParts) (slots : List Slot) : Type 0 where
  pub team : kind_of (statement_of nested.construct) ≡ Some kind.Team
  pub fit : IsFitNest (nested_of nested)
  pub count : length slots ≡ members_in nested * phases_in nested
  pub right : (j k : ℕ) (own : Slot) → k < phases_in nested →
      slice_get slots (j * phases_in nested + k) ≡ Some own → IsRight (nested_of nested) j k own
  pub order : AreInOrder (phases_in nested) (map mark_of slots)

-- For each member the first phase whose piece was not handed out: exactly the phases before it are begun.
abbrev pub AreNext : ℕ → List Mark → List ℕ → Type 0
AreNext phases marks next = (j k : ℕ) (mark : Mark) → IsAt phases marks j k mark
    → (is_begun mark ≡ true) ↔ (k < get_or next j 0)

-- The invariant of these numbers and the slots.
pub record IsHeld (nested : NestedParts) (slots : List Slot) (next : List ℕ) : Type 0 where
  pub kept : IsKept nested slots
  pub members : length next ≡ members_in nested
  pub begun : AreNext (phases_in nested) (map mark_of slots) next

-- Each slot is settled: filled, barred or lost.
abbrev pub AreSettled : List Slot → Type 0
AreSettled slots = (i : ℕ) (own : Slot) → slice_get slots i ≡ Some own → is_settled (mark_of own) ≡ true

-- Some slot is barred or lost.
abbrev pub HaveFailed : List Slot → Type 0
HaveFailed slots = (i : ℕ) × (own : Slot) × (slice_get slots i ≡ Some own) × (is_failed (mark_of own) ≡ true)

-- The mark at an index.
abbrev pub mark_at : List Slot → ℕ → Mark
mark_at slots i = mark_of (slice_index_or slots i slot.Barred)

-- The piece at an index waits, and the two pieces right before it are filled: that of the same member in the phase before, and
-- that of the member below in the same phase.
pub record LooksReady (phases : ℕ) (slots : List Slot) (i : ℕ) : Type 0 where
  pub waits : mark_at slots i ≡ Waiting
  pub earlier : 0 < i % phases → mark_at slots (i - 1) ≡ Filled
  pub below : phases ≤ i → mark_at slots (i - phases) ≡ Filled

-- The writes in a slot.
abbrev pub written_in : Slot → List Write
written_in slot.Waiting = []
written_in slot.Barred = []
written_in (slot.Out job) = []
written_in (slot.Filled job written) = written.pairs
written_in (slot.Lost job) = []

-- The store from which the job of a slot started.
abbrev pub started_from : Slot → Store
started_from slot.Waiting = []
started_from slot.Barred = []
started_from (slot.Out job) = job.store
started_from (slot.Filled job written) = job.store
started_from (slot.Lost job) = job.store

-- The writes of the predecessors of member j in phase k, followed by its own piece.
abbrev pub written_with : List (List (List Write)) → ℕ → ℕ → List Write
written_with rows j k = written_before rows j k ++ get_or (get_or rows k []) j []

-- The writes of the first members in a phase.
abbrev pub column : ℕ → List Slot → ℕ → ℕ → List (List Write)
column phases slots phase zero = []
column phases slots phase (suc members) =
    column phases slots phase members
    ++ written_in (slice_index_or slots (members * phases + phase) slot.Barred) ∷ []

-- The writes of the first members in the first phases.
abbrev pub columns : ℕ → List Slot → ℕ → ℕ → List (List (List Write))
columns phases slots members zero = []
columns phases slots members (suc upto) =
    columns phases slots members upto ++ column phases slots upto members ∷ []
