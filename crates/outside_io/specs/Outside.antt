-- What a source gives, what a sink takes, and how a count of failures rises. Bytes are optional: contracts see those of an
-- object or don't. A source whose bytes they see stays so; a sink may stop.
use Rattle.std.specs.Prelude.{◌≡◌, ◌⊎◌, ℕ, ◌<◌, ◌≤◌, ◌-◌, ◌^◌, List, [], ◌++◌, length, take, Option, Some, None}
use Rattle.outside_io.specs.declared.source.Fill.{Fill}
use Rattle.outside_io.specs.declared.source.Fill.TheVariants as fill
use Rattle.outside_io.specs.declared.sink.Put.{Put}
use Rattle.outside_io.specs.declared.sink.Put.TheVariants as put

-- A counter rose, or is at its last value.
abbrev pub Rose : ℕ → ℕ → Type 0
Rose before after = (before < after) ⊎ ((before ≡ 2 ^ 64 - 1) × (after ≡ before))

-- The source gave these bytes from the front of what was left.
abbrev pub Gives : Option (List ℕ) → List ℕ → Option (List ℕ) → Type 0
Gives None bytes after = Unit {0}
Gives (Some before) bytes None = ⊥
Gives (Some before) bytes (Some after) = before ≡ bytes ++ after

-- The sink put these bytes behind what it had taken.
abbrev pub Appends : Option (List ℕ) → List ℕ → Option (List ℕ) → Type 0
Appends before bytes None = Unit {0}
Appends None bytes (Some after) = ⊥
Appends (Some before) bytes (Some after) = after ≡ before ++ bytes

-- Nothing is left, if contracts see the source's bytes.
abbrev pub IsAtEnd : Option (List ℕ) → Type 0
IsAtEnd None = Unit {0}
IsAtEnd (Some left) = left ≡ []

-- The effect of one read: the bytes left and the count of faults before it, the buffer and the result after it, and the bytes
-- left and the count then.
abbrev pub Reads : Option (List ℕ) → ℕ → List ℕ → Fill → Option (List ℕ) → ℕ → Type 0
Reads left faults buf (fill.Got count) left' faults' =
    (1 ≤ count) × (count ≤ length buf) × Gives left (take count buf) left'
Reads left faults buf fill.End left' faults' = Gives left [] left' × IsAtEnd left'
Reads left faults buf fill.Failed left' faults' = Rose faults faults' × Gives left [] left'

-- The stream of a sink, if it shows what it holds, took what the sink took, and nothing after a fault.
abbrev pub PutInto : Option (List ℕ) → List ℕ → Put → Option (List ℕ) → Type 0
PutInto None piece answer after = Unit {0}
PutInto (Some before) piece answer None = ⊥
PutInto (Some before) piece (put.Took count) (Some after) = after ≡ before ++ take count piece
PutInto (Some before) piece put.Failed (Some after) = after ≡ before

-- What one write did, in the same way.
abbrev pub Writes : Option (List ℕ) → ℕ → List ℕ → Put → Option (List ℕ) → ℕ → Type 0
Writes taken faults piece (put.Took count) taken' faults' =
    (1 ≤ count) × (count ≤ length piece) × Appends taken (take count piece) taken'
Writes taken faults piece put.Failed taken' faults' = Rose faults faults' × Appends taken [] taken'
