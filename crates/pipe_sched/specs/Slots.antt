-- The state of the pieces of a `team`: one for each member in each phase.
use Rattle.std.specs.Prelude.{◌≡◌, ◌⊎◌, ℕ, ◌+◌, ◌*◌, ◌/◌, ◌%◌, ◌<◌, ◌≤◌, nat_le, ◌&&◌, Bool, true, false, if◌then◌else◌, List, [], ◌∷◌, replicate, slice_get, slice_set, Some}
use Rattle.array_tree.specs.Trees.{statement_of}
use Rattle.step_eval.specs.Nests.{NestedParts, phases_of}
use Rattle.step_eval.specs.Shapes.{members_of}

-- The state of a piece. It waits until it is handed out. Then it is out until it is filled with its writes, or lost by an
-- allocation failure. A piece that comes after a failed one is barred: it is never handed out.
pub data Mark : Type 0 where
  Waiting : Mark
  Barred : Mark
  Out : Mark
  Filled : Mark
  Lost : Mark

-- The parts of a pipeline that contracts see: its construct, and the state of each piece, member by member and then by phase.
pub record PipeParts : Type 0 where
  pub nested : NestedParts
  pub marks : List Mark

-- The number of phases of a construct.
abbrev pub phases_in : NestedParts → ℕ
phases_in nested = phases_of (statement_of nested.construct)

-- The number of members of a construct.
abbrev pub members_in : NestedParts → ℕ
members_in nested = members_of (statement_of nested.construct)

-- Member j has this mark in phase k, if marks are those of so many phases.
abbrev pub IsAt : ℕ → List Mark → ℕ → ℕ → Mark → Type 0
IsAt phases marks j k mark = (k < phases) × (slice_get marks (j * phases + k) ≡ Some mark)

-- The piece of member i in phase h comes before that of member j in phase k: neither its member nor its phase is higher, and
-- the pieces differ.
pub record ComesBefore (i h j k : ℕ) : Type 0 where
  pub member : i ≤ j
  pub phase : h ≤ k
  pub other : (i < j) ⊎ (h < k)

-- All pieces that come before this one are filled.
abbrev pub IsClear : ℕ → List Mark → ℕ → ℕ → Type 0
IsClear phases marks j k = (i h : ℕ) → ComesBefore i h j k → IsAt phases marks i h Filled

-- The piece waits, and all pieces that come before it are filled.
pub record IsReady (phases : ℕ) (marks : List Mark) (j k : ℕ) : Type 0 where
  pub waits : IsAt phases marks j k Waiting
  pub clear : IsClear phases marks j k

-- The piece is the first ready one, by member and then by phase.
pub record IsFirst (phases : ℕ) (marks : List Mark) (j k : ℕ) : Type 0 where
  pub ready : IsReady phases marks j k
  pub least : (i h : ℕ) → IsReady phases marks i h → (j < i) ⊎ ((j ≡ i) × (k ≤ h))

-- The piece of member j in phase k has this mark.
abbrev pub IsMarked : PipeParts → ℕ → ℕ → Mark → Type 0
IsMarked pipe j k mark = IsAt (phases_in pipe.nested) pipe.marks j k mark

-- The piece is the one that is handed out next.
abbrev pub IsDue : PipeParts → ℕ → ℕ → Type 0
IsDue pipe j k = IsFirst (phases_in pipe.nested) pipe.marks j k

-- No piece can be handed out.
abbrev pub NoneIsDue : PipeParts → Type 0
NoneIsDue pipe = (j k : ℕ) → ¬ IsReady (phases_in pipe.nested) pipe.marks j k

-- A piece has begun if it was handed out, for any later state.
abbrev pub is_begun : Mark → Bool
is_begun Waiting = false
is_begun Barred = false
is_begun Out = true
is_begun Filled = true
is_begun Lost = true

-- A piece is settled if it is filled, barred or lost.
abbrev pub is_settled : Mark → Bool
is_settled Waiting = false
is_settled Barred = true
is_settled Out = false
is_settled Filled = true
is_settled Lost = true

-- A piece has failed if it is barred or lost.
abbrev pub is_failed : Mark → Bool
is_failed Waiting = false
is_failed Barred = true
is_failed Out = false
is_failed Filled = false
is_failed Lost = true

-- Every piece is filled or has failed.
abbrev pub IsFull : PipeParts → Type 0
IsFull pipe = (i : ℕ) (mark : Mark) → slice_get pipe.marks i ≡ Some mark → is_settled mark ≡ true

-- Some piece has failed.
abbrev pub HasFailed : PipeParts → Type 0
HasFailed pipe = (i : ℕ) × (mark : Mark) × (slice_get pipe.marks i ≡ Some mark) × (is_failed mark ≡ true)

-- No piece of the pipeline was handed out.
abbrev pub new_pipe : NestedParts → PipeParts
new_pipe nested = record {
  nested = nested;
  marks = replicate (members_in nested * phases_in nested) Waiting;
}

-- The pipeline with this mark for member j in phase k.
abbrev pub marked_pipe : PipeParts → ℕ → ℕ → Mark → PipeParts
marked_pipe pipe j k mark = record pipe {
  marks = slice_set pipe.marks (j * phases_in pipe.nested + k) mark;
}

-- The mark of a piece after it, or a piece before it, has failed.
abbrev pub failed_mark : Mark → Mark
failed_mark Waiting = Barred
failed_mark Barred = Barred
failed_mark Out = Lost
failed_mark Filled = Filled
failed_mark Lost = Lost

-- The test decides whether an index belongs to member j or a higher one, in phase k or a later one.
abbrev pub follows : ℕ → ℕ → ℕ → ℕ → Bool
follows phases j k place = nat_le j (place / phases) && nat_le k (place % phases)

-- The list with a change of each element whose index passes the test, from this index on.
abbrev pub changed_where : {A : Type 0} → (ℕ → Bool) → (A → A) → ℕ → List A → List A
changed_where test change place [] = []
changed_where test change place (x ∷ more) =
    (if test place then change x else x) ∷ changed_where test change (place + 1) more

-- The piece of member j in phase k fails, and so do all that come after it.
abbrev pub failed_pipe : PipeParts → ℕ → ℕ → PipeParts
failed_pipe pipe j k = record pipe {
  marks = changed_where (follows (phases_in pipe.nested) j k) failed_mark 0 pipe.marks;
}

-- The piece may fail: it is out, or is the one that is handed out next.
abbrev pub MayFail : PipeParts → ℕ → ℕ → Type 0
MayFail pipe j k = IsMarked pipe j k Out ⊎ IsDue pipe j k

-- From this piece on, all pieces have failed.
abbrev pub FailsFrom : PipeParts → ℕ → ℕ → Type 0
FailsFrom pipe j k = (i h : ℕ) (mark : Mark) → j ≤ i → k ≤ h → IsMarked pipe i h mark
    → is_failed mark ≡ true
