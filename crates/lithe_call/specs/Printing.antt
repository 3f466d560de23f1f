-- Whole inputs and outputs, by the bytes that a source had left and a sink has taken.
use Rattle.std.specs.Prelude.{ℕ, ◌<◌, ◌≤◌, ◌⊎◌, List, length, take, Option}
use Rattle.outside_io.specs.Outside.{Rose, Gives, Appends, IsAtEnd}

-- The source gave these bytes, and then it ended.
pub record GivesAll (before : Option (List ℕ)) (bytes : List ℕ)
    (after : Option (List ℕ)) : Type 0 where
  pub given : Gives before bytes after
  pub ended : IsAtEnd after

-- The source gave these bytes, at most so many, and then it ended.
pub record GivesWithin (limit : ℕ) (before : Option (List ℕ)) (bytes : List ℕ)
    (after : Option (List ℕ)) : Type 0 where
  pub given : GivesAll before bytes after
  pub short : length bytes ≤ limit

-- The source gave more than so many bytes.
pub record GivesMore (before : Option (List ℕ)) (limit : ℕ) (after : Option (List ℕ)) : Type 0 where
  pub bytes : List ℕ
  pub given : Gives before bytes after
  pub longer : limit < length bytes

-- The sink appended a prefix of these bytes to those that it had taken.
abbrev pub AppendsPrefix : Option (List ℕ) → List ℕ → Option (List ℕ) → Type 0
AppendsPrefix before bytes after = (count : ℕ) × Appends before (take count bytes) after

-- A text was written: the sink took it completely, or, if its count of faults rose, a prefix.
abbrev pub Prints : Option (List ℕ) → ℕ → List ℕ → Option (List ℕ) → ℕ → Type 0
Prints before faults text after faults' =
    Appends before text after ⊎ (Rose faults faults' × AppendsPrefix before text after)
