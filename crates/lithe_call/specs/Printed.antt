-- The same for bytes that a source showed beforehand.
use Rattle.std.specs.Prelude.{◌≡◌, ℕ, List, Option}
use Rattle.outside_io.specs.Outside.{Appends}
use Rattle.lithe_call.specs.Printing.{AppendsPrefix, Prints}
use Rattle.lithe_call.specs.Output.{IsOutputOf}
use Rattle.lithe_call.specs.Faults.{IsNoText, IsRefused}
use Rattle.lithe_call.specs.Status.{constant_text}
use Rattle.command_words.specs.declared.command.Command.{Command}
use Rattle.lithe_call.specs.declared.status.Status.{Status}
use Rattle.lithe_call.specs.declared.status.Status.TheVariants.{Syntax, Refused}

-- The sink took the output of the command for these bytes with this status.
pub record TookOutput (command : Command) (bytes : List ℕ) (status : Status)
    (taken taken' : Option (List ℕ)) : Type 0 where
  pub text : List ℕ
  pub output : IsOutputOf command bytes status text
  pub written : Appends taken text taken'

-- The sink took a prefix of the output for any status.
pub record TookPrefix (command : Command) (bytes : List ℕ)
    (taken taken' : Option (List ℕ)) : Type 0 where
  pub status : Status
  pub text : List ℕ
  pub output : IsOutputOf command bytes status text
  pub written : AppendsPrefix taken text taken'

-- The text is the status's for the command with these bytes.
abbrev pub IsLineOf : Command → Status → List ℕ → List ℕ → Type 0
IsLineOf command Syntax bytes text = IsNoText command bytes text
IsLineOf command Refused bytes text = IsRefused command bytes text
IsLineOf command status bytes text = text ≡ constant_text status

-- The text was written to the sink.
pub record PrintedLine (command : Command) (status : Status) (bytes : List ℕ) (taken : Option (List ℕ))
    (faults : ℕ) (taken' : Option (List ℕ)) (faults' : ℕ) : Type 0 where
  pub text : List ℕ
  pub right : IsLineOf command status bytes text
  pub prints : Prints taken faults text taken' faults'
