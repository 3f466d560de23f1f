-- The inputs of commands: a program; for an audit a program and an output; and for `make` nothing.
use Rattle.std.specs.Prelude.{◌≡◌, ℕ, List, Option, Some}
use Rattle.array_meaning.specs.Bounds.{most_bytes}
use Rattle.outside_io.specs.Outside.{Rose}
use Rattle.run_audit.specs.Parts.{most_audited}
use Rattle.lithe_call.specs.Printing.{GivesWithin, GivesMore}
use Rattle.command_words.specs.declared.command.Command.{Command}
use Rattle.command_words.specs.declared.command.Command.TheVariants.{Audit, Make}

-- The greatest length of a command's input, in bytes.
abbrev pub limit_of : Command → ℕ
limit_of (Audit harts) = most_audited
limit_of (Make seed size harts) = 0
limit_of command = most_bytes

-- The command read these bytes, which were all that the source had left, at most the limit of its input. Why the bytes that it
-- read, not those that it should read: the clause then has a meaning even if the source doesn't show its bytes.
abbrev pub ReadsAll : Command → Option (List ℕ) → List ℕ → Option (List ℕ) → Type 0
ReadsAll (Make seed size harts) left bytes left' = left' ≡ left
ReadsAll command left bytes left' = GivesWithin (limit_of command) left bytes left'

-- The source had more bytes than the limit of the command's input.
abbrev pub GivesTooMuch : Command → Option (List ℕ) → Option (List ℕ) → Type 0
GivesTooMuch (Make seed size harts) left left' = ⊥
GivesTooMuch command left left' = GivesMore left (limit_of command) left'

-- These bytes are the command's input, as the source showed beforehand; any bytes for `make`.
abbrev pub AreInput : Command → Option (List ℕ) → List ℕ → Type 0
AreInput (Make seed size harts) left bytes = Unit {0}
AreInput command left bytes = left ≡ Some bytes

-- The source failed while the command read, by its count of faults before and after.
abbrev pub FailsToRead : Command → ℕ → ℕ → Type 0
FailsToRead (Make seed size harts) faults faults' = ⊥
FailsToRead command faults faults' = Rose faults faults'
